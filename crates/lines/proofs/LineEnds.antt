-- The blanks at a line's ends: blanks counted from the front add up, one taken off the end changes nothing of what is left, and what is left
-- is a part of the line.
-- Assumes nothing.
use mathlib.Core.Path.{◌≡◌, refl, sym, ap, ◌∙◌}
use mathlib.Core.Bool.{true, false}
use mathlib.Core.List.{List, [], ◌∷◌, ◌++◌}
use Prim.Native.Nat.{ℕ, suc, ◌+◌, ◌-◌, ◌≤◌, ◌<◌}
use native.Mathlib.Omega.{arith}
use native.Mathlib.Numerals.{add-one}
use lib.ListN.{length, get_or, take, drop, length-drop}
use lib.Seq.{drop-cons, take-suc, take_all, take-length, length-take-le}
use Rattle.prelude.specs.Pick.{pick}
use Rattle.prelude.proofs.Cases.{split}
use Rattle.lines.specs.Line.{blank, leads, keep, trimmed, strip}

leads_none : leads [] ≡ 0
unfolding leads
leads_none = refl

leads_one : (x : ℕ) (r : List ℕ) → blank x ≡ true → leads (x ∷ r) ≡ suc (leads r)
unfolding leads pick
leads_one x r e = rw e

leads_stop : (x : ℕ) (r : List ℕ) → blank x ≡ false → leads (x ∷ r) ≡ 0
unfolding leads pick
leads_stop x r e = rw e

pub leads_le : (s : List ℕ) → leads s ≤ length s
leads_le [] = omega (arith, leads_none)
leads_le (x ∷ r) = split (blank x) (λ e. omega (arith, leads_one x r e, leads_le r)) (λ e. omega (arith, leads_stop x r e))

-- the first loop: i blanks are counted
module _ (s : List ℕ) (i : ℕ) (e : leads s ≡ i + leads (drop i s)) where
  pub lead_more : i < length s → blank (get_or s i 0) ≡ true → leads s ≡ i + 1 + leads (drop (i + 1) s)
  lead_more h b =
      let d : leads (drop i s) ≡ suc (leads (drop (i + 1) s)) =
      rw (drop-cons s i 0 h, add-one i) (leads_one (get_or s i 0) (drop (suc i) s) b) in omega arith

  pub lead_stop : i < length s → blank (get_or s i 0) ≡ false → i ≡ leads s
  lead_stop h b =
      let d : leads (drop i s) ≡ 0 = rw (drop-cons s i 0 h) (leads_stop (get_or s i 0) (drop (suc i) s) b) in omega arith

  pub lead_end : length s ≤ i → i ≡ leads s
  lead_end h = omega (arith, leads_le (drop i s), length-drop i s)

trim_blank : (b : ℕ) → blank b ≡ true → (xs : List ℕ) → trimmed (xs ++ (b ∷ [])) ≡ trimmed xs
unfolding trimmed pick
trim_blank b e [] = rw e
trim_blank b e (x ∷ xs) = ap (keep x) (trim_blank b e xs)

keep_some : (x b : ℕ) (xs : List ℕ) → keep x (xs ++ (b ∷ [])) ≡ x ∷ (xs ++ (b ∷ []))
keep_some x b [] = refl
keep_some x b (y ∷ ys) = refl

pub trim_stop : (b : ℕ) → blank b ≡ false → (xs : List ℕ) → trimmed (xs ++ (b ∷ [])) ≡ xs ++ (b ∷ [])
unfolding trimmed pick
trim_stop b e [] = rw e
trim_stop b e (x ∷ xs) = ap (keep x) (trim_stop b e xs) ∙ keep_some x b xs

-- the second loop: only blanks stand from e on
module _ (s : List ℕ) (e : ℕ) (p : 0 < e) (h : e ≤ length s) where
  cut : take e s ≡ take (e - 1) s ++ (get_or s (e - 1) 0 ∷ [])
  cut = let q : e ≡ suc (e - 1) = omega arith in ap (λ (k : ℕ). take k s) q ∙ take-suc s (e - 1) 0 (omega arith)

  pub trim_more : trimmed s ≡ trimmed (take e s) → blank (get_or s (e - 1) 0) ≡ true → trimmed s ≡ trimmed (take (e - 1) s)
  trim_more i b = i ∙ ap trimmed cut ∙ trim_blank (get_or s (e - 1) 0) b (take (e - 1) s)

  pub trim_found : trimmed s ≡ trimmed (take e s) → blank (get_or s (e - 1) 0) ≡ false → e ≡ length (trimmed s)
  trim_found i b =
      let q : trimmed s ≡ take e s = i ∙ ap trimmed cut ∙ trim_stop (get_or s (e - 1) 0) b (take (e - 1) s) ∙ sym cut in
      sym (ap length q ∙ length-take-le e s h)

pub trim_whole : (s : List ℕ) → trimmed s ≡ trimmed (take (length s) s)
trim_whole s = ap trimmed (sym (take-length s))

pub trim_ended : (s : List ℕ) (e : ℕ) → e ≡ 0 → trimmed s ≡ trimmed (take e s) → 0 ≡ length (trimmed s)
unfolding trimmed
trim_ended s e z i = let q : trimmed s ≡ trimmed (take 0 s) = rw z at i in sym (ap length q)

-- what is left is the front
front_keep : (x n : ℕ) (t r : List ℕ) → t ≡ take n r → n ≡ length t → n ≤ length r → keep x t ≡ take (length (keep x t)) (x ∷ r)
unfolding pick
front_keep x n [] r e l h = split (blank x) (λ b. rw b) (λ b. rw b)
front_keep x n (y ∷ t) r e l h = ap (λ (q : List ℕ). x ∷ q) (e ∙ ap (λ (k : ℕ). take k r) l)

keep_le : (x n : ℕ) (t : List ℕ) → length t ≤ n → length (keep x t) ≤ suc n
unfolding pick
keep_le x n [] h = split (blank x) (λ b. rw b (omega arith)) (λ b. rw b (omega arith))
keep_le x n (y ∷ t) h = omega arith

pub trim_le : (s : List ℕ) → length (trimmed s) ≤ length s
unfolding trimmed
trim_le [] = omega arith
trim_le (x ∷ r) = keep_le x (length r) (trimmed r) (trim_le r)

pub trim_front : (s : List ℕ) → trimmed s ≡ take (length (trimmed s)) s
unfolding trimmed
trim_front [] = refl
trim_front (x ∷ r) = front_keep x (length (trimmed r)) (trimmed r) r (trim_front r) refl (trim_le r)

-- the two ends together
module _ (s : List ℕ) (a n : ℕ) (ea : a ≡ leads s) (en : n ≡ length (trimmed (take (length s - a) (drop a s)))) where
  rest_is : n ≡ length (trimmed (drop a s))
  rest_is =
      en ∙ ap (λ (l : List ℕ). length (trimmed l)) (take_all (length s - a) (drop a s) (omega (arith, length-drop a s)))

  pub strip_inside : (a ≤ length s) × (a + n ≤ length s)
  strip_inside = (omega (arith, leads_le s), omega (arith, leads_le s, trim_le (drop a s), length-drop a s, rest_is))

  pub strip_part : take (a + n - a) (drop a s) ≡ strip s
  unfolding strip
  strip_part =
      let d : a + n - a ≡ length (trimmed (drop a s)) = omega (arith, rest_is) in
      rw d (sym (trim_front (drop a s)) ∙ ap (λ (k : ℕ). trimmed (drop k s)) ea)
