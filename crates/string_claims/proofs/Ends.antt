-- An accepted string ends at a closing quote, and reads the same whatever follows that: the units before it agree.
-- Assumes nothing.
use Prim.Native.Nat.{ℕ, zero, suc, ◌+◌, ◌≤◌, ◌<◌}
use mathlib.Core.List.{List, [], ◌∷◌, ◌++◌, append_assoc}
use mathlib.Core.Path.{◌≡◌, refl, sym, ap, ◌∙◌}
use native.Mathlib.Omega.{arith}
use lib.ListN.{length, take, drop, length-append, take-append-drop, get_or, get_or-append}
use lib.Seq.{drop_at, take_at, length-take-le}
use Rattle.prelude.specs.Refusals.{no_opening}
use Rattle.prelude.proofs.Suffix.{by_suffix}
use Rattle.notation.specs.declared.styles.Style.{Style}
use Rattle.notation.specs.Styles.{quote, StringUnit, close, took, fault}
use Rattle.units.specs.Units.{unit_at}
use Rattle.units.proofs.Sizes.{took_size, close_quote}
use Rattle.string_claims.proofs.Agreement.{unit_agree, append_agree}
use Rattle.notation.specs.Marks.{Opening, opens, unopened, opening}
use Rattle.strings.specs.Read.{StringRead, accepted, refused, more, after, read_units, read_from, read_token}
use Rattle.strings.proofs.Places.{Marked, opening_fits}
use Rattle.strings.proofs.Steps.{read_skip, read_close, read_took}

-- what stands before the closing quote and behind it, and the reading of the first with any text behind its quote
pub record Ended (st : Style) (p : ℕ) (s bs : List ℕ) (e : ℕ) : Type 0 where
  pub before : List ℕ
  pub behind : List ℕ
  pub parts : s ≡ before ++ (quote st ∷ behind)
  pub ends : e ≡ p + (length before + 1)
  pub again : (t : List ℕ) → read_units st p 0 (before ++ (quote st ∷ t)) ≡ accepted bs e

abbrev pub Ends : Style → ℕ → List ℕ → StringRead → Type 0
Ends st p s (accepted bs e) = Ended st p s bs e
Ends st p s (refused refusal at) = Unit

ends_close : (st : Style) (p x : ℕ) (r : List ℕ) → x ≡ quote st → Ended st p (x ∷ r) [] (p + 1)
ends_close st p x r e = record { before = []; behind = r; parts = rw e; ends = refl; again = read_close st p }

ends_more : (st : Style) (p : ℕ) (s : List ℕ) (n : ℕ) (bs : List ℕ) → unit_at st s ≡ took n bs → (r : StringRead) → Ends st (p + n) (drop n s) r → Ends st p s (more bs r)
ends_more st p s n bs e (refused refusal at) d = tt
ends_more st p s n bs e (accepted cs m) d =
    let u : List ℕ = take n s in
    let l : length u ≡ n = length-take-le n s (took_size st s n bs e).1 in
    let q : s ≡ (u ++ d.before) ++ (quote st ∷ d.behind) = sym (take-append-drop n s) ∙ ap (λ (z : List ℕ). u ++ z) d.parts ∙ sym (append_assoc u d.before _) in
    record {
      before = u ++ d.before;
      behind = d.behind;
      parts = q;
      ends = omega (arith, d.ends, length-append u d.before);
      again = λ t.
          let c : unit_at st ((u ++ d.before) ++ (quote st ∷ t)) ≡ took n bs =
          unit_agree st (append_agree st (u ++ d.before) t d.behind) ∙ ap (unit_at st) (sym q) ∙ e in
          rw (read_took st p ((u ++ d.before) ++ (quote st ∷ t)) n bs c, append_assoc u d.before (quote st ∷ t), drop_at u (d.before ++ (quote st ∷ t)) n l, d.again t);
    }

ends_one : (st : Style) (x : ℕ) (r : List ℕ) → ((k p : ℕ) → Ends st p (drop k r) (read_units st p 0 (drop k r))) → (p : ℕ) → Ends st p (x ∷ r) (read_units st p 0 (x ∷ r))
unfolding read_units
ends_one st x r ih p = go (unit_at st (x ∷ r)) refl
  where
    go : (u : StringUnit) → unit_at st (x ∷ r) ≡ u → Ends st p (x ∷ r) (after p u (λ q k. read_units st q k r))
    go close e = ends_close st p x r (close_quote st x r e)
    go (took zero bs) e = absurd (omega (arith, took_size st (x ∷ r) zero bs e))
    go (took (suc n) bs) e =
        rw (read_skip st (p + suc n) n r) (ends_more st p (x ∷ r) (suc n) bs e (read_units st (p + suc n) 0 (drop n r)) (ih n (p + suc n)))
    go (fault refusal) e = tt

pub units_end : (st : Style) (s : List ℕ) (p : ℕ) → Ends st p s (read_units st p 0 s)
unfolding read_units
units_end st = by_suffix (λ s. (p : ℕ) → Ends st p s (read_units st p 0 s)) (λ p. tt) (ends_one st)

opening_same : (s u : List ℕ) → get_or s 0 0 ≡ get_or u 0 0 → get_or s 1 0 ≡ get_or u 1 0 → opening s ≡ opening u
unfolding opening
opening_same s u a b = simp (a, b)

module _ (st : Style) (n : ℕ) (s bs : List ℕ) (e : ℕ) (pos : 0 < n) (fits : n ≤ length s) (d : Ended st n (drop n s) bs e) where
  front : List ℕ
  front = take n s ++ (d.before ++ (quote st ∷ []))

  front_length : length front ≡ e
  unfolding front
  front_length = omega (arith, length-append (take n s) (d.before ++ (quote st ∷ [])), length-append d.before (quote st ∷ []), length-take-le n s fits, d.ends)

  front_parts : s ≡ front ++ d.behind
  unfolding front
  front_parts =
      sym (take-append-drop n s) ∙ ap (λ (z : List ℕ). take n s ++ z) (d.parts ∙ sym (append_assoc d.before (quote st ∷ []) d.behind))
      ∙ sym (append_assoc (take n s) (d.before ++ (quote st ∷ [])) d.behind)

  front_take : take e s ≡ front
  front_take = ap (take e) front_parts ∙ take_at front d.behind e front_length

  get_or_cut : (t : List ℕ) (i : ℕ) → i < e → get_or (take e s ++ t) i 0 ≡ get_or s i 0
  get_or_cut t i h =
      rw front_take
      (get_or-append front t 0 i (omega (arith, front_length)) ∙ sym (get_or-append front d.behind 0 i (omega (arith, front_length))) ∙ ap (λ (z : List ℕ). get_or z i 0) (sym front_parts))

  cut_again : (t : List ℕ) → read_units st n n (take e s ++ t) ≡ accepted bs e
  unfolding front
  cut_again t =
      rw (
        read_skip st n n (take e s ++ t),
        front_take,
        append_assoc (take n s) (d.before ++ (quote st ∷ [])) t,
        drop_at (take n s) ((d.before ++ (quote st ∷ [])) ++ t) n (length-take-le n s fits),
        append_assoc d.before (quote st ∷ []) t,
      )
      (d.again t)

-- the text behind a string's end plays no part
pub token_cut : (s bs : List ℕ) (e : ℕ) → read_token s ≡ accepted bs e → (t : List ℕ) → read_token (take e s ++ t) ≡ accepted bs e
unfolding read_token
token_cut s bs e h t = go (opening s) refl (opening_fits s)
  where
    go : (o : Opening) → opening s ≡ o → Marked s o → read_from (opening (take e s ++ t)) (take e s ++ t) ≡ accepted bs e
    go unopened q f = let z : refused no_opening 0 ≡ accepted bs e = rw q at h in cc
    go (opens st n) q (pos, fits) =
        let r : read_units st n 0 (drop n s) ≡ accepted bs e = sym (read_skip st n n s) ∙ (rw q at h) in
        let d : Ended st n (drop n s) bs e = rw r at (units_end st (drop n s) n) in
        let o : opening (take e s ++ t) ≡ opens st n =
        opening_same (take e s ++ t) s (get_or_cut st n s bs e pos fits d t 0 (omega (arith, d.ends))) (get_or_cut st n s bs e pos fits d t 1 (omega (arith, d.ends))) ∙ q in
        rw o (cut_again st n s bs e pos fits d t)
