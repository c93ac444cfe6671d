-- What `u''` and `''` denote is UTF-8: each unit denotes one character.
-- Assumes nothing.
use Prim.Native.Nat.{ℕ, pred, ◌+◌}
use mathlib.Core.Bool.{true}
use mathlib.Core.List.{List, [], ◌∷◌}
use mathlib.Core.Path.{◌≡◌, refl, ◌∙◌}
use lib.Dec.{eqb}
use lib.ListN.{length, drop}
use Rattle.prelude.proofs.Picks.{pick_case}
use Rattle.prelude.proofs.Suffix.{by_suffix}
use Rattle.utf8.specs.Utf8.{valid_from, valid_utf8}
use Rattle.utf8.proofs.Characters.{valid_char}
use Rattle.utf8.proofs.Encoded.{OneChar}
use Rattle.notation.specs.declared.styles.Style.TheVariants.{Unicode}
use Rattle.notation.specs.Styles.{StringUnit, close, took, fault}
use Rattle.units.specs.Units.{unit_at}
use Rattle.units.proofs.OneCharacter.{Whole, unit_whole}
use Rattle.notation.specs.Marks.{opens, opening}
use Rattle.strings.specs.Read.{StringRead, accepted, refused, more, after, nothing_behind, read_units, read_from, read_token, read_string}
use Rattle.strings.proofs.Steps.{read_skip}

abbrev pub Valid : StringRead → Type 0
Valid (accepted bs e) = valid_utf8 bs ≡ true
Valid (refused refusal at) = Unit

valid_more : (bs : List ℕ) (r : StringRead) → OneChar bs → Valid r → Valid (more bs r)
valid_more [] r c v = absurd c
valid_more (a ∷ bs) (accepted cs e) c v = valid_char a bs cs c ∙ v
valid_more (a ∷ bs) (refused refusal at) c v = tt

valid_one : (x : ℕ) (r : List ℕ) → ((k p : ℕ) → Valid (read_units Unicode p 0 (drop k r))) → (p : ℕ) → Valid (read_units Unicode p 0 (x ∷ r))
unfolding read_units valid_from
valid_one x r ih p = go (unit_at Unicode (x ∷ r)) (unit_whole (x ∷ r))
  where
    go : (u : StringUnit) → Whole u → Valid (after p u (λ q k. read_units Unicode q k r))
    go close w = refl
    go (took n bs) w = rw (read_skip Unicode (p + n) (pred n) r) (valid_more bs (read_units Unicode (p + n) 0 (drop (pred n) r)) w (ih (pred n) (p + n)))
    go (fault refusal) w = tt

pub units_valid : (s : List ℕ) (p : ℕ) → Valid (read_units Unicode p 0 s)
unfolding read_units
units_valid = by_suffix (λ s. (p : ℕ) → Valid (read_units Unicode p 0 s)) (λ p. tt) valid_one

pub valid_whole : (m : ℕ) (r : StringRead) → Valid r → Valid (nothing_behind m r)
valid_whole m (accepted bs e) v = pick_case Valid (eqb e m) _ _ (λ q. v) (λ q. tt)
valid_whole m (refused refusal at) v = tt

pub unicode_valid : (s : List ℕ) (n : ℕ) → opening s ≡ opens Unicode n → Valid (read_string s)
unfolding read_string read_token
unicode_valid s n o = valid_whole (length s) (read_from (opening s) s) (rw (o, read_skip Unicode n n s) (units_valid (drop n s) n))
