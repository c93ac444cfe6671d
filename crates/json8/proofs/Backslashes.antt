-- A backslash in a string's token: a run of literal characters has none, so a token that is one run between its marks has none, and one
-- that goes on behind the run has one there, as only an escape can follow.
-- Assumes nothing.
use mathlib.Core.Path.{◌≡◌, refl, sym, ap, ◌∙◌}
use mathlib.Core.Bool.{true, false, ◌&&◌}
use mathlib.Core.List.{List, [], ◌∷◌, ◌++◌, append-nil}
use Prim.Native.Nat.{ℕ, zero, suc, ◌+◌, ◌≤◌, ◌<◌}
use native.Mathlib.Omega.{arith}
use borrow.Author.Tests.{eqb-true, eq-eqb, ne_eqb, leb-true}
use lib.Dec.{ltb, leb, eqb, lit≤}
use lib.ListN.{length, get_or, take, drop, length-drop}
use lib.Seq.{take-add, drop-drop, drop-cons, get_or-drop}
use Rattle.std.specs.Prelude.{Some}
use Rattle.prelude.specs.Pick.{pick}
use Rattle.prelude.specs.declared.refusals.Refusal.{Refusal}
use Rattle.prelude.specs.Refusals.{control}
use Rattle.prelude.proofs.Cases.{split, and_left, and_right, never}
use Rattle.prelude.proofs.Picks.{pick_case}
use Rattle.prelude.proofs.Rest.{get_or_inside}
use Rattle.utf8.specs.Class.{class_of}
use Rattle.utf8.specs.Utf8.{char_fault, between, low_of, high_of, char_len}
use Rattle.utf8.proofs.Characters.{tails, low_bound, char_tails}
use Rattle.utf8.proofs.Faults.{fault_told}
use Rattle.notation.specs.declared.styles.Style.{Style}
use Rattle.notation.specs.declared.styles.Style.TheVariants.{Json, Unicode, Bytes}
use Rattle.notation.specs.Styles.{quote, fault}
use Rattle.notation.specs.Literals.{literal_len, literal_run}
use Rattle.units.specs.Units.{unit_at}
use Rattle.notation.proofs.LiteralLaws.{literal_char, by_run, run_ends, quote_ascii}
use Rattle.notation.specs.Marks.{Opening, opens, unopened, opening}
use Rattle.strings.specs.Read.{StringRead, accepted, refused, more, read_units, read_from, read_token}
use Rattle.strings.proofs.Runs.{run_law}
use Rattle.strings.proofs.Steps.{read_skip, read_close, read_fault}
use Rattle.strings.proofs.Places.{Inside, units_inside}
use Rattle.json8.specs.Leaves.{slashed}
use Rattle.json8.specs.inner.Slashes.{Slashed}

-- where the bytes stand
pub slash_append : (a b : List ℕ) → slashed a ≡ false → slashed b ≡ false → slashed (a ++ b) ≡ false
unfolding slashed pick
slash_append [] b e f = f
slash_append (x ∷ a) b e f =
    split (eqb x 0x5c) (λ s. let z : true ≡ false = rw s at e in never cc) (λ s. rw s (slash_append a b (rw s at e) f))

slash_more : (x : ℕ) (r : List ℕ) → (x ≡ 0x5c → ⊥) → slashed r ≡ false → slashed (x ∷ r) ≡ false
unfolding slashed pick
slash_more x r ne e = rw (ne_eqb x 0x5c ne, e)

slash_none : slashed [] ≡ false
unfolding slashed
slash_none = refl

slash_at : (s : List ℕ) (i n : ℕ) → i < n → get_or s i 0 ≡ 0x5c → slashed (take n s) ≡ true
unfolding slashed pick
slash_at [] i n h e = absurd (omega arith)
slash_at (x ∷ r) i zero h e = absurd (omega arith)
slash_at (x ∷ r) zero (suc n) h e = rw (eq-eqb x 0x5c e)
slash_at (x ∷ r) (suc i) (suc n) h e = split (eqb x 0x5c) (λ s. rw s) (λ s. rw s (slash_at r i n (omega arith) e))

-- a literal character has none, and so a run of them
tails_slash : (low high n : ℕ) (r : List ℕ) → 0x80 ≤ low → tails low high n r ≡ true → slashed (take n r) ≡ false
unfolding tails slashed
tails_slash low high zero r h e = slash_none
tails_slash low high (suc n) [] h e = slash_none
tails_slash low high (suc n) (b ∷ r) h e =
    let l : low ≤ b = leb-true low b (and_left (leb low b) _ (and_left (between low high b) _ e)) in
    slash_more b (take n r) (λ z. omega arith) (tails_slash 0x80 0xbf n r (lit≤ tt) (and_right (between low high b) _ e))

literal_no_slash : (st : Style) (x : ℕ) (r : List ℕ) (n : ℕ) → literal_len st (x ∷ r) ≡ suc n → x ≡ 0x5c → ⊥
unfolding literal_len pick
literal_no_slash st x r n e z =
    split (eqb x (quote st)) (λ q. omega (arith, rw q at e)) (λ q. omega (arith, rw (q, eq-eqb x 92 z) at e))

literal_slash : (st : Style) (s : List ℕ) (n : ℕ) → literal_len st s ≡ suc n → slashed (take (suc n) s) ≡ false
unfolding literal_len
literal_slash st [] n e = absurd (omega arith)
literal_slash st (x ∷ r) n e =
    slash_more x (take n r) (literal_no_slash st x r n e)
    (tails_slash (low_of (class_of x)) (high_of (class_of x)) n r (low_bound (class_of x)) (char_tails x r n (literal_char st (x ∷ r) n e)).1)

run_slash : (st : Style) (s : List ℕ) → slashed (take (literal_run st 0 s) s) ≡ false
run_slash st =
    by_run st (λ s n. slashed (take n s) ≡ false) (λ s e. slash_none)
    (λ s n m e f h. rw (take-add (suc n) m s) (slash_append (take (suc n) s) (take m (drop (suc n) s)) (literal_slash st s n e) h))

-- an opening mark has none
front_one : (s : List ℕ) (v : ℕ) → (v ≡ 0x5c → ⊥) → eqb (get_or s 0 0) v ≡ true → slashed (take 1 s) ≡ false
front_one [] v h e = slash_none
front_one (x ∷ r) v h e = slash_more x [] (λ z. h (sym (eqb-true x v e) ∙ z)) slash_none

front_two : (s : List ℕ) (v w : ℕ) → (v ≡ 0x5c → ⊥) → (w ≡ 0x5c → ⊥) → eqb (get_or s 0 0) v && eqb (get_or s 1 0) w ≡ true → slashed (take 2 s) ≡ false
front_two [] v w h g e = slash_none
front_two (x ∷ r) v w h g e =
    slash_more x (take 1 r) (λ z. h (sym (eqb-true x v (and_left (eqb x v) _ e)) ∙ z)) (front_one r w g (and_right (eqb x v) _ e))

abbrev Marked : List ℕ → Opening → Type 0
Marked s (opens st k) = slashed (take k s) ≡ false
Marked s unopened = Unit

mark_slash : (s : List ℕ) → Marked s (opening s)
unfolding opening
mark_slash s =
    pick_case (Marked s) (eqb (get_or s 0 0) 34) _ _ (λ e. front_one s 34 (λ z. omega arith) e)
    (λ e. pick_case (Marked s) (eqb (get_or s 0 0) 39) _ _ (λ d. front_one s 39 (λ z. omega arith) d)
    (λ d. pick_case (Marked s) (eqb (get_or s 0 0) 117 && eqb (get_or s 1 0) 39) _ _ (λ c. front_two s 117 39 (λ z. omega arith) (λ z. omega arith) c)
    (λ c. pick_case (Marked s) (eqb (get_or s 0 0) 98 && eqb (get_or s 1 0) 39) _ _ (λ b. front_two s 98 39 (λ z. omega arith) (λ z. omega arith) b)
    (λ b. tt))))

char_refused : (st : Style) (x : ℕ) (r : List ℕ) (why : Refusal) → eqb x (quote st) ≡ false → eqb x 92 ≡ false → ltb x 32 ≡ false
    → char_len (x ∷ r) ≡ 0 → char_fault (x ∷ r) ≡ Some why → unit_at st (x ∷ r) ≡ fault why
unfolding unit_at pick
char_refused st x r why q b c z f = rw (q, b, c, z, f)

-- where no literal character stands, nor a quote or a backslash, a fault does
unit_fault : (st : Style) (x : ℕ) (r : List ℕ) → literal_len st (x ∷ r) ≡ 0 → eqb x (quote st) ≡ false → eqb x 92 ≡ false
    → (refusal : Refusal) × (unit_at st (x ∷ r) ≡ fault refusal)
unfolding unit_at literal_len pick
unit_fault st x r e q b =
    split (ltb x 32) (λ c. (control, rw (q, b, c)))
    (λ c.
    let z : char_len (x ∷ r) ≡ 0 = rw (q, b, c) at e in
    let (why, (f, w)) = fault_told (x ∷ r) z in (why, char_refused st x r why q b c z f))

none_ends : (st : Style) (p : ℕ) (cs : List ℕ) (f : ℕ) → read_units st p 0 [] ≡ accepted cs f → ◌≡◌ {A = ℕ} 0 1
unfolding read_units
none_ends st p cs f v = cc

more_accepted : (a : List ℕ) (v : StringRead) (bs : List ℕ) (e : ℕ) → more a v ≡ accepted bs e → (cs : List ℕ) × (v ≡ accepted cs e)
more_accepted a (accepted cs f) bs e h = (cs, let z : f ≡ e = cc in ap (accepted cs) z)
more_accepted a (refused refusal at) bs e h = never cc

-- a string whose mark has k bytes, and whose literal characters behind it end at a place
module _ (text : List ℕ) (at k : ℕ) (st : Style) (o : opening (drop at text) ≡ opens st k) (e : ℕ)
    (ee : e ≡ at + k + literal_run st 0 (drop (at + k) text)) where
  abbrev run : ℕ
  run = literal_run st 0 (drop (at + k) text)

  there : drop run (drop (at + k) text) ≡ drop e text
  there = drop-drop run (at + k) text ∙ ap (λ (n : ℕ). drop n text) (sym ee)

  token_run : read_token (drop at text) ≡ more (take run (drop (at + k) text)) (read_units st (k + run) 0 (drop e text))
  unfolding read_token
  token_run =
      ap (λ (p : Opening). read_from p (drop at text)) o ∙ read_skip st k k (drop at text) ∙ ap (read_units st k 0) (drop-drop k at text)
      ∙ run_law st (drop (at + k) text) k ∙ rw there

  module _ (q : get_or (drop e text) 0 0 ≡ quote st) where
    pub quote_inside : e < length text
    quote_inside = omega (arith, get_or_inside (drop e text) 0 (λ z. omega (arith, quote_ascii st)), length-drop e text)

    behind : drop e text ≡ quote st ∷ drop (suc e) text
    behind = drop-cons text e 0 quote_inside ∙ ap (λ (x : ℕ). x ∷ drop (suc e) text) (let f : get_or text e 0 ≡ get_or (drop e text) 0 0 = rw (drop-cons text e 0 quote_inside) in f ∙ q)

    pub whole_run : read_token (drop at text) ≡ accepted (take run (drop (at + k) text)) (k + run + 1)
    whole_run = token_run ∙ rw (behind, read_close st (k + run) (drop (suc e) text), append-nil (take run (drop (at + k) text)))

    pub run_unslashed : slashed (take (k + run + 1) (drop at text)) ≡ false
    run_unslashed =
        let a : k + run + 1 ≡ k + (run + 1) = omega arith in
        let m = rw o at (mark_slash (drop at text)) in
        let l : take 1 (drop e text) ≡ quote st ∷ [] = rw behind in
        rw (a, take-add k (run + 1) (drop at text), drop-drop k at text, take-add run 1 (drop (at + k) text), there, l)
        (slash_append (take k (drop at text)) (take run (drop (at + k) text) ++ (quote st ∷ [])) m
        (slash_append (take run (drop (at + k) text)) (quote st ∷ []) (run_slash st (drop (at + k) text))
        (slash_more (quote st) [] (not_slash st) slash_none)))
      where
        not_slash : (y : Style) → quote y ≡ 0x5c → ⊥
        not_slash Json z = omega arith
        not_slash Unicode z = omega arith
        not_slash Bytes z = omega arith

  pub slash_behind : (get_or (drop e text) 0 0 ≡ quote st → ⊥) → Slashed (drop at text)
  slash_behind ne bs f h = go (drop e text) refl (more_accepted _ _ bs f (sym token_run ∙ h))
    where
      stops : literal_len st (drop e text) ≡ 0
      stops = ap (literal_len st) (sym there) ∙ run_ends st (drop (at + k) text)

      go : (s : List ℕ) → drop e text ≡ s → ((cs : List ℕ) × (read_units st (k + run) 0 (drop e text) ≡ accepted cs f)) → slashed (take f (drop at text)) ≡ true
      go s es (cs, v) =
          split (eqb (get_or (drop e text) 0 0) 92)
          (λ b. let i : Inside (k + run) (k + run + length (drop e text)) (accepted cs f) = rw v at (units_inside st (drop e text) (k + run) (k + run + length (drop e text)) refl) in
          let g : get_or (drop at text) (k + run) 0 ≡ 0x5c = at_end_lem ∙ eqb-true _ 92 b in
          slash_at (drop at text) (k + run) f i.0 g)
          (λ b. never (no_end s es b cs v))
        where
          at_end_lem : get_or (drop at text) (k + run) 0 ≡ get_or (drop e text) 0 0
          at_end_lem =
              let a : at + (k + run) ≡ e + 0 = omega arith in
              get_or-drop at text (k + run) 0 ∙ ap (λ (n : ℕ). get_or text n 0) a ∙ sym (get_or-drop e text 0 0)

          no_end : (s : List ℕ) → drop e text ≡ s → eqb (get_or (drop e text) 0 0) 92 ≡ false → (cs : List ℕ) → read_units st (k + run) 0 (drop e text) ≡ accepted cs f → ◌≡◌ {A = ℕ} 0 1
          no_end [] es b cs v = none_ends st (k + run) cs f (rw es at v)
          no_end (x ∷ r) es b cs v =
              let l : literal_len st (x ∷ r) ≡ 0 = rw es at stops in
              let n : eqb x (quote st) ≡ false = ne_eqb x (quote st) (λ z. ne (rw es z)) in
              let d : eqb x 92 ≡ false = rw es at b in
              let (refusal, u) = unit_fault st x r l n d in
              let w = rw es at v in
              let y = read_fault st (k + run) (x ∷ r) refusal u in
              cc
