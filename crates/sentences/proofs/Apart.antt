-- What is true of every sentence, by a computed test that goes through the rows: a law turns it into each number's sentence.
-- Assumes nothing.
use Prim.Native.Nat.{ℕ, ◌≤◌}
use mathlib.Core.Bool.{Bool, true, false, not, ◌&&◌}
use mathlib.Core.List.{List, [], ◌∷◌}
use mathlib.Core.Path.{◌≡◌, refl, sym, ap, ◌∙◌}
use borrow.Author.Tests.{eq-eqb, eqb-true, leb-true}
use lib.Dec.{eqb, leb}
use lib.ListN.{length}
use Rattle.prelude.proofs.Cases.{split, never, and_left, and_right}
use Rattle.prelude.proofs.Picks.{pick_true, pick_false, pick_case}
use Rattle.prelude.specs.Bytes.{ascii}
use Rattle.prelude.specs.Pick.{pick}
use Rattle.sentences.specs.Sentences.{Row, unknown, sentence_in}
use Rattle.sentences.specs.Claims.{InOneLine}

-- what holds of the words of every row, and of those for other numbers
abbrev each : (List ℕ → Bool) → List Row → Bool
each f [] = f (ascii unknown)
each f (r ∷ rs) = f (ascii r.says) && each f rs

each_sentence : (f : List ℕ → Bool) (rs : List Row) → each f rs ≡ true → (n : ℕ) → f (sentence_in rs n) ≡ true
unfolding sentence_in
each_sentence f [] e n = e
each_sentence f (r ∷ rs) e n =
    pick_case (λ (s : List ℕ). f s ≡ true) (eqb n r.number) (ascii r.says) (sentence_in rs n)
    (λ h. and_left (f (ascii r.says)) (each f rs) e)
    (λ h. each_sentence f rs (and_right (f (ascii r.says)) (each f rs) e) n)

-- no control byte
abbrev pub is_plain : List ℕ → Bool
is_plain [] = true
is_plain (x ∷ s) = leb 0x20 x && is_plain s

plain_by : (s : List ℕ) → is_plain s ≡ true → InOneLine s
plain_by [] e = tt
plain_by (x ∷ s) e = (leb-true 0x20 x (and_left (leb 0x20 x) (is_plain s) e), plain_by s (and_right (leb 0x20 x) (is_plain s) e))

pub plain_sentence : (rs : List Row) → each is_plain rs ≡ true → (n : ℕ) → InOneLine (sentence_in rs n)
plain_sentence rs e n = plain_by (sentence_in rs n) (each_sentence is_plain rs e n)

-- not longer than a room
abbrev pub within : ℕ → List ℕ → Bool
within room s = leb (length s) room

pub short_sentence : (room : ℕ) (rs : List Row) → each (within room) rs ≡ true → (n : ℕ) → length (sentence_in rs n) ≤ room
short_sentence room rs e n = leb-true (length (sentence_in rs n)) room (each_sentence (within room) rs e n)

-- the same bytes
abbrev same : List ℕ → List ℕ → Bool
same [] [] = true
same [] (y ∷ t) = false
same (x ∷ s) [] = false
same (x ∷ s) (y ∷ t) = eqb x y && same s t

same_self : (s : List ℕ) → same s s ≡ true
same_self [] = refl
same_self (x ∷ s) = rw (eq-eqb x x refl) (same_self s)

abbrev other : List ℕ → List ℕ → Bool
other s t = not (same s t)

others_differ : (s t : List ℕ) → other s t ≡ true → s ≡ t → ◌≡◌ {A = ℕ} 0 1
others_differ s t e h =
    let f : same s t ≡ true = ap (same s) (sym h) ∙ same_self s in
    let g : not true ≡ true = ap not (sym f) ∙ e in
    let z : false ≡ true = g in
    cc

-- each row's words are none of those behind it
abbrev pub apart : List Row → Bool
apart [] = true
apart (r ∷ rs) = each (other (ascii r.says)) rs && apart rs

-- a row has this number
abbrev pub has : ℕ → List Row → Bool
has n [] = false
has n (r ∷ rs) = pick (eqb n r.number) true (has n rs)

module _ (r : Row) (rs : List Row) (d : apart (r ∷ rs) ≡ true) where
  -- a row's words are no sentence of those behind it
  behind_differ : (n : ℕ) → ascii r.says ≡ sentence_in rs n → ◌≡◌ {A = ℕ} 0 1
  behind_differ n h =
      others_differ (ascii r.says) (sentence_in rs n) (each_sentence (other (ascii r.says)) rs (and_left (each (other (ascii r.says)) rs) (apart rs) d) n) h

-- a row's sentence tells its number
pub sentence_tells : (rs : List Row) → apart rs ≡ true → (m n : ℕ) → has m rs ≡ true → sentence_in rs m ≡ sentence_in rs n → m ≡ n
unfolding sentence_in
sentence_tells [] d m n h w = never (let z : false ≡ true = h in cc)
sentence_tells (r ∷ rs) d m n h w =
    split (eqb m r.number)
    (λ a. split (eqb n r.number)
    (λ b. eqb-true m r.number a ∙ sym (eqb-true n r.number b))
    (λ b. never (behind_differ r rs d n (sym (pick_true _ _ _ a) ∙ w ∙ pick_false _ _ _ b))))
    (λ a. split (eqb n r.number)
    (λ b. never (behind_differ r rs d m (sym (pick_true _ _ _ b) ∙ sym w ∙ pick_false _ _ _ a)))
    (λ b.
    sentence_tells rs (and_right (each (other (ascii r.says)) rs) (apart rs) d) m n (sym (pick_false _ _ _ a) ∙ h)
    (sym (pick_false _ _ _ a) ∙ w ∙ pick_false _ _ _ b)))
