-- What begins at a place: each test of the code decides one pick of the definition, at the byte that stands first.
-- Assumes nothing.
use mathlib.Core.Path.{◌≡◌, sym, ap, ◌∙◌}
use mathlib.Core.Bool.{true, false}
use mathlib.Core.List.{List, ◌∷◌}
use Rattle.std.specs.Prelude.{Option, Some, None}
use Prim.Native.Nat.{ℕ, suc, ◌-◌, ◌≤◌, ◌<◌}
use native.Mathlib.Omega.{arith}
use borrow.Author.Tests.{eq-eqb, ne_eqb}
use lib.ListN.{length, get_or, take, drop, length-drop, drop_of_length-le}
use lib.Seq.{drop-cons, take_all}
use Rattle.prelude.specs.Pick.{pick}
use Rattle.notation.specs.declared.marks.Mark.{Mark}
use Rattle.notation.specs.Marks.{opens, unopened, opening, opening_of}
use Rattle.tokens.specs.declared.starts.Start.TheVariants.{Ended, String, Word, Number, List as ListStart, Dict, Nothing}
use Rattle.tokens.specs.Words.{is_letter, is_digit}
use Rattle.tokens.specs.Starts.{is_opening, start_of}

pub rest : (s : List ℕ) (at : ℕ) → take (length s - at) (drop at s) ≡ drop at s
rest s at = take_all (length s - at) (drop at s) (omega (arith, length-drop at s))

module _ (s : List ℕ) (at : ℕ) (m : Option Mark) (e : opening_of m ≡ opening (take (length s - at) (drop at s))) where
  pub opens_here : (v : Mark) → m ≡ Some v → true ≡ is_opening (opening (drop at s))
  opens_here v q = let o : opening (drop at s) ≡ opens v.style v.len = ap opening (sym (rest s at)) ∙ sym e ∙ ap opening_of q in rw o

  pub opens_not : m ≡ None → false ≡ is_opening (opening (drop at s))
  opens_not q = let o : opening (drop at s) ≡ unopened = ap opening (sym (rest s at)) ∙ sym e ∙ ap opening_of q in rw o

pub start_end : (s : List ℕ) (at : ℕ) → length s ≤ at → Ended ≡ start_of (drop at s)
unfolding start_of
start_end s at h = rw (drop_of_length-le s h)

module _ (s : List ℕ) (at : ℕ) (h : at < length s) where
  cons : drop at s ≡ get_or s at 0 ∷ drop (suc at) s
  cons = drop-cons s at 0 h

  pub start_string : is_opening (opening (drop at s)) ≡ true → String ≡ start_of (drop at s)
  unfolding start_of pick
  start_string o = let q = rw cons at o in rw (cons, q)

  module _ (o : is_opening (opening (drop at s)) ≡ false) where
    pub start_word : is_letter (get_or s at 0) ≡ true → Word ≡ start_of (drop at s)
    unfolding start_of pick
    start_word l = let q = rw cons at o in rw (cons, q, l)

    module _ (l : is_letter (get_or s at 0) ≡ false) where
      pub start_digit : is_digit (get_or s at 0) ≡ true → Number ≡ start_of (drop at s)
      unfolding start_of pick
      start_digit d = let q = rw cons at o in rw (cons, q, l, d)

      module _ (d : is_digit (get_or s at 0) ≡ false) where
        pub start_minus : get_or s at 0 ≡ 0x2d → Number ≡ start_of (drop at s)
        unfolding start_of pick
        start_minus e = let q = rw cons at o in rw (cons, q, l, d, eq-eqb (get_or s at 0) 0x2d e)

        module _ (m : get_or s at 0 ≡ 0x2d → ⊥) where
          pub start_list : get_or s at 0 ≡ 0x5b → ListStart ≡ start_of (drop at s)
          unfolding start_of pick
          start_list e = let q = rw cons at o in rw (cons, q, l, d, ne_eqb (get_or s at 0) 0x2d m, eq-eqb (get_or s at 0) 0x5b e)

          module _ (b : get_or s at 0 ≡ 0x5b → ⊥) where
            pub start_dict : get_or s at 0 ≡ 0x7b → Dict ≡ start_of (drop at s)
            unfolding start_of pick
            start_dict e = let q = rw cons at o in rw (cons, q, l, d, ne_eqb (get_or s at 0) 0x2d m, ne_eqb (get_or s at 0) 0x5b b, eq-eqb (get_or s at 0) 0x7b e)

            pub start_nothing : (get_or s at 0 ≡ 0x7b → ⊥) → Nothing ≡ start_of (drop at s)
            unfolding start_of pick
            start_nothing e = let q = rw cons at o in rw (cons, q, l, d, ne_eqb (get_or s at 0) 0x2d m, ne_eqb (get_or s at 0) 0x5b b, ne_eqb (get_or s at 0) 0x7b e)
