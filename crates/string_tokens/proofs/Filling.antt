-- A string filled: what is still to be stored stands ahead, from inside a literal character on where an eight ended there. A byte that is no
-- backslash stands for itself, and no backslash stands inside a character, so at a backslash a unit begins.
-- Assumes nothing.
use Rattle.std.specs.Prelude.{Result, Ok, Err}
use Rattle.prelude.specs.declared.refusals.Refusal.{Refusal}
use Prim.Native.Nat.{ℕ, zero, suc, pred, ◌+◌, ◌-◌, ◌≤◌, ◌<◌}
use mathlib.Core.Bool.{true, false}
use mathlib.Core.List.{List, [], ◌∷◌, ◌++◌, append_assoc}
use mathlib.Core.Path.{◌≡◌, refl, sym, ap, ◌∙◌, subst}
use native.Mathlib.Omega.{arith}
use borrow.Author.Tests.{eqb-true, eq-eqb, ne_eqb, leb-true, ltb-true, ltb-false}
use lib.Dec.{ltb, leb, eqb, lit≤}
use lib.ListN.{length, get_or, take, drop, set, length-drop, length-append, drop_of_length-le}
use lib.Seq.{sets, sets-eq, drop-cons, drop-drop, drop_at, take_at, take-add, take-append-le, take_all, take-take, length-take-le, length-sets, get_or-drop, drop-append_seam}
use Rattle.prelude.specs.Bytes.{backslash}
use Rattle.prelude.specs.Pick.{pick}
use Rattle.prelude.proofs.Cases.{split, never, and_left, and_right}
use Rattle.prelude.proofs.Picks.{pick_case}
use Rattle.utf8.specs.Class.{class_of}
use Rattle.utf8.specs.Utf8.{between, char_len, char_by, encode, few_of}
use Rattle.utf8.specs.declared.encoding.Few.{Few}
use Rattle.utf8.proofs.Faults.{fault_told}
use Rattle.utf8.proofs.Characters.{tails, char_tails, low_bound}
use Rattle.notation.specs.declared.styles.Style.{Style}
use Rattle.notation.specs.declared.styles.Unit.{Unit as Found}
use Rattle.notation.specs.declared.styles.Unit.TheVariants.{Close, Took}
use Rattle.notation.specs.Styles.{quote, StringUnit, close, took, fault, unit_of, FewOf}
use Rattle.escapes.specs.Escapes.{lookup, letters}
use Rattle.notation.specs.Marks.{opens, unopened, opening}
use Rattle.units.specs.Units.{literal, unit_at}
use Rattle.units.proofs.Sizes.{took_size, took_raw}
use Rattle.eights.specs.inner.Words.{First}
use Rattle.strings.specs.Read.{StringRead, accepted, refused, read_token}
use Rattle.strings.specs.inner.Turns.{unit_then, units_bytes, bytes_from, token_bytes}
use Rattle.strings.proofs.Reading.{took_few}
use Rattle.strings.proofs.UnitBytes.{bytes_skip, bytes_close, bytes_fault, bytes_took, Denoted, token_denoted}
use Rattle.string_tokens.specs.inner.Quotes.{denoted, len_of, Fronted, Filled}
use Rattle.string_tokens.proofs.Numbers.{pair_is}

tails_high : (low high n : ℕ) (r : List ℕ) → 0x80 ≤ low → tails low high n r ≡ true → (j : ℕ) → j < n → 0x80 ≤ get_or r j 0
unfolding tails
tails_high low high zero r h e j l = absurd (omega arith)
tails_high low high (suc n) [] h e j l = never cc
tails_high low high (suc n) (b ∷ r) h e zero l =
    let f : low ≤ b = leb-true low b (and_left (leb low b) _ (and_left (between low high b) _ e)) in omega arith
tails_high low high (suc n) (b ∷ r) h e (suc j) l = tails_high 0x80 0xbf n r (lit≤ tt) (and_right (between low high b) _ e) j (omega arith)

char_high : (x : ℕ) (r : List ℕ) (n : ℕ) → char_len (x ∷ r) ≡ suc n → (j : ℕ) → j < n → get_or r j 0 ≡ backslash → ⊥
char_high x r n e j l q =
    let t = char_tails x r n e in
    let h : 0x80 ≤ get_or r j 0 = tails_high _ _ n r (low_bound (class_of x)) t.1 j l in omega arith

-- what is still to be stored
pub record Ahead (st : Style) (l want : List ℕ) : Type 0 where
  pub inner : ℕ
  pub clean : (j : ℕ) → j < inner → get_or l j 0 ≡ backslash → ⊥
  pub is : want ≡ take inner l ++ units_bytes st inner l

abbrev One : Style → ℕ → List ℕ → ℕ → List ℕ → Type 0
One st x r y ws = (y ≡ x) × Ahead st r ws

by_literal : (st : Style) (x : ℕ) (r : List ℕ) (y : ℕ) (ws : List ℕ) (n : ℕ) → char_len (x ∷ r) ≡ n
    → y ∷ ws ≡ unit_then (literal (char_by n (x ∷ r)) (x ∷ r)) (λ m. units_bytes st m r) → One st x r y ws
by_literal st x r y ws zero c e =
    let (bad, (is, within)) = fault_told (x ∷ r) c in never (let z : y ∷ ws ≡ [] = rw is at e in cc)
by_literal st x r y ws (suc n) c e =
    let a : y ≡ x = cc in
    let b : ws ≡ take n r ++ units_bytes st n r = cc in
    (a, record { inner = n; clean = char_high x r n c; is = b })

by_unit : (st : Style) (x : ℕ) (r : List ℕ) (y : ℕ) (ws : List ℕ) → (x ≡ backslash → ⊥)
    → y ∷ ws ≡ unit_then (unit_at st (x ∷ r)) (λ m. units_bytes st m r) → One st x r y ws
unfolding unit_at pick
by_unit st x r y ws h e =
    split (eqb x (quote st)) (λ q. never (let z : y ∷ ws ≡ [] = rw q at e in cc))
    (λ q. split (ltb x 32) (λ c. never (let z : y ∷ ws ≡ [] = simp (q, ne_eqb x backslash h, c) at e in cc))
    (λ c. by_literal st x r y ws (char_len (x ∷ r)) refl (simp (q, ne_eqb x backslash h, c) at e)))

one_by : (st : Style) (x : ℕ) (r : List ℕ) (y : ℕ) (ws : List ℕ) (k : ℕ) → ((j : ℕ) → j < k → get_or (x ∷ r) j 0 ≡ backslash → ⊥) → (x ≡ backslash → ⊥)
    → y ∷ ws ≡ take k (x ∷ r) ++ units_bytes st k (x ∷ r) → One st x r y ws
unfolding units_bytes
one_by st x r y ws zero c h e = by_unit st x r y ws h e
one_by st x r y ws (suc k) c h e =
    let a : y ≡ x = cc in
    let b : ws ≡ take k r ++ units_bytes st k r = cc in
    (a, record { inner = k; clean = λ j l. c (suc j) (omega arith); is = b })

ahead_run : (st : Style) (n : ℕ) (l want : List ℕ) → Ahead st l want → n ≤ length want → n ≤ length l
    → ((j : ℕ) → j < n → get_or l j 0 ≡ backslash → ⊥) → Ahead st (drop n l) (drop n want) × (take n want ≡ take n l)
ahead_run st zero l want a h i f = (a, refl)
ahead_run st (suc n) [] want a h i f = absurd (omega arith)
ahead_run st (suc n) (x ∷ r) [] a h i f = absurd (omega arith)
ahead_run st (suc n) (x ∷ r) (y ∷ ws) a h i f =
    let o : One st x r y ws = one_by st x r y ws a.inner a.clean (f 0 (omega arith)) a.is in
    let g = ahead_run st n r ws o.1 (omega arith) (omega arith) (λ j l. f (suc j) (omega arith)) in
    (g.0, λ i. o.0 i ∷ g.1 i)

ahead_at : (st : Style) (l k v w : List ℕ) → l ≡ k → v ≡ w → Ahead st l v → Ahead st k w
ahead_at st l k v w e f a = subst (λ (x : List ℕ). Ahead st k x) f (subst (λ (x : List ℕ). Ahead st x v) e a)

slash_by_lem : (st : Style) (l want : List ℕ) (k : ℕ) → ((j : ℕ) → j < k → get_or l j 0 ≡ backslash → ⊥) → get_or l 0 0 ≡ backslash
    → want ≡ take k l ++ units_bytes st k l → want ≡ units_bytes st 0 l
slash_by_lem st l want zero c q e = e
slash_by_lem st l want (suc k) c q e = absurd (c 0 (omega arith) q)

none_ahead : (st : Style) (k : ℕ) → take k [] ++ units_bytes st k [] ≡ []
unfolding units_bytes
none_ahead st zero = refl
none_ahead st (suc k) = refl

ahead_more : (st : Style) (l want : List ℕ) → Ahead st l want → 0 < length want → 0 < length l
ahead_more st [] want a h = let e : want ≡ [] = a.is ∙ none_ahead st a.inner in absurd (omega (arith, ap length e))
ahead_more st (x ∷ r) want a h = omega arith

-- no string denotes more bytes than stand in its text
unit_short : (st : Style) (r : List ℕ) (u : StringUnit) → ((n : ℕ) (bs : List ℕ) → u ≡ took n bs → (length bs ≤ n) × (0 < n) × (n ≤ suc (length r)))
    → ((k : ℕ) → length (units_bytes st k r) ≤ length r - k) → length (unit_then u (λ k. units_bytes st k r)) ≤ suc (length r)
unit_short st r close f g = omega arith
unit_short st r (took n bs) f g =
    let z = f n bs refl in omega (arith, length-append bs (units_bytes st (pred n) r), z, g (pred n))
unit_short st r (fault refusal) f g = omega arith

units_short : (st : Style) (k : ℕ) (l : List ℕ) → length (units_bytes st k l) ≤ length l - k
unfolding units_bytes
units_short st k [] = omega arith
units_short st zero (x ∷ r) =
    omega (arith, unit_short st r (unit_at st (x ∷ r)) (λ n bs e. let z = took_size st (x ∷ r) n bs e in ((took_raw st (x ∷ r) n bs e).0, z.0, z.1)) (λ k. units_short st k r))
units_short st (suc k) (x ∷ r) = omega (arith, units_short st k r)

ahead_short : (st : Style) (k : ℕ) (l : List ℕ) → length (take k l ++ units_bytes st k l) ≤ length l
unfolding units_bytes
ahead_short st zero l = omega (arith, units_short st 0 l)
ahead_short st (suc k) [] = omega arith
ahead_short st (suc k) (x ∷ r) = omega (arith, ahead_short st k r)

-- the loop's invariant
pub record Filling (st : Style) (s all : List ℕ) (out : List ℕ) (at o : ℕ) : Type 0 where
  pub inside : at ≤ length s
  pub room : o ≤ length out
  pub fits : 0 < length out → length out ≡ length all
  pub done : take o out ≡ take o all
  pub ahead : Ahead st (drop at s) (drop o all)

pub begun : (st : Style) (s out : List ℕ) (from : ℕ) → from ≤ length s → (0 < length out → length out ≡ length (units_bytes st 0 (drop from s)))
    → Filling st s (units_bytes st 0 (drop from s)) out from 0
begun st s out from h f =
    record { inside = h; room = omega arith; fits = f; done = refl; ahead = record { inner = 0; clean = λ j l. absurd (omega arith); is = refl } }

stored_on : (all out bs : List ℕ) (o n : ℕ) → take o out ≡ take o all → n ≤ length bs → o + length bs ≤ length out → take n bs ≡ take n (drop o all)
    → take (o + n) (sets out o bs) ≡ take (o + n) all
stored_on all out bs o n e h f g =
    let l : length (take o out) ≡ o = length-take-le o out (omega arith) in
    ap (take (o + n)) (sets-eq bs out o f ∙ append_assoc (take o out) bs (drop (o + length bs) out))
    ∙ take-add o n (take o out ++ (bs ++ drop (o + length bs) out))
    ∙ (λ i. take_at (take o out) (bs ++ drop (o + length bs) out) o l i ++ take n (drop_at (take o out) (bs ++ drop (o + length bs) out) o l i))
    ∙ (λ i. e i ++ (take-append-le n bs (drop (o + length bs) out) h ∙ g) i)
    ∙ sym (take-add o n all)

module _ (st : Style) (s all out : List ℕ) (at o : ℕ) (c : Filling st s all out at o) where
  left : o < length out → length (drop o all) ≡ length out - o
  left h = length-drop o all ∙ (let z : length all - o ≡ length out - o = omega (arith, c.fits (omega arith)) in z)

  pub more_text : o < length out → at < length s
  more_text h = omega (arith, ahead_more st (drop at s) (drop o all) c.ahead (omega (arith, left h)), length-drop at s)

  pub text_left : o < length out → length out - o ≤ length s - at
  text_left h = omega (arith, left h, ap length c.ahead.is, ahead_short st c.ahead.inner (drop at s), length-drop at s)

  pub on_bytes : (n : ℕ) (bs new : List ℕ) → n ≤ length bs → take n bs ≡ take n (drop at s) → at + n ≤ length s → o + length bs ≤ length out → o < length out
      → ((j : ℕ) → j < n → get_or s (at + j) 0 ≡ backslash → ⊥) → new ≡ sets out o bs → Filling st s all new (at + n) (o + n)
  on_bytes n bs new h e i f p g w =
      let q : length new ≡ length out = ap length w ∙ length-sets out o bs in
      let a = ahead_run st n (drop at s) (drop o all) c.ahead (omega (arith, left (omega arith))) (omega (arith, length-drop at s)) (λ j l z. g j l (sym (get_or-drop at s j 0) ∙ z)) in
      record {
        inside = i;
        room = omega arith;
        fits = λ z. q ∙ c.fits (omega arith);
        done = ap (take (o + n)) w ∙ stored_on all out bs o n c.done h f (e ∙ sym a.1);
        ahead = ahead_at st _ _ _ _ (drop-drop n at s) (drop-drop n o all) a.0;
      }

  pub on_front : (n : ℕ) (new : List ℕ) → o < length out → Fronted s at o out n new → Filling st s all new (at + n) (o + n)
  on_front n new h f = on_bytes n f.bytes new f.known f.same f.inside f.fits h f.clean f.stored

  module _ (q : get_or s at 0 ≡ backslash) (h : o < length out) where
    rest_is : drop o all ≡ units_bytes st 0 (drop at s)
    rest_is = slash_by_lem st (drop at s) (drop o all) c.ahead.inner c.ahead.clean (get_or-drop at s 0 0 ∙ ap (λ (k : ℕ). get_or s k 0) (let z : at + 0 ≡ at = omega arith in z) ∙ q) c.ahead.is

    pub some_bytes : 0 < length (units_bytes st 0 (drop at s))
    some_bytes = omega (arith, ap length rest_is, left h)

    pub on_unit : (to p : ℕ) (new : List ℕ) → Filled st s at o out to p new → Filling st s all new to p × (at < to)
    on_unit to p new u =
        let size = took_size st (drop at s) u.len u.bytes u.is in
        let b : drop o all ≡ u.bytes ++ units_bytes st 0 (drop to s) =
        rest_is ∙ bytes_took st (drop at s) u.len u.bytes u.is
        ∙ ap (λ (r : List ℕ). u.bytes ++ units_bytes st 0 r) (drop-drop u.len at s ∙ ap (λ (k : ℕ). drop k s) (sym u.behind)) in
        let l : length u.bytes ≤ length (drop o all) = omega (arith, ap length b, length-append u.bytes (units_bytes st 0 (drop to s))) in
        let q : length new ≡ length out = ap length u.stored ∙ length-sets out o u.bytes in
        let f : o + length u.bytes ≤ length out = omega (arith, l, left h) in
        let d : drop p all ≡ units_bytes st 0 (drop to s) =
        ap (λ (k : ℕ). drop k all) u.count ∙ sym (drop-drop (length u.bytes) o all) ∙ ap (drop (length u.bytes)) b ∙ drop-append_seam u.bytes (units_bytes st 0 (drop to s)) in
        let t : take (length u.bytes) u.bytes ≡ take (length u.bytes) (drop o all) =
        sym (ap (take (length u.bytes)) b ∙ take-append-le (length u.bytes) u.bytes (units_bytes st 0 (drop to s)) (omega arith)) in (
          record {
            inside = omega (arith, u.behind, size.1, length-drop at s, c.inside);
            room = omega (arith, u.count);
            fits = λ z. q ∙ c.fits (omega arith);
            done = (λ i. take (u.count i) (u.stored i)) ∙ stored_on all out u.bytes o (length u.bytes) c.done (omega arith) f t
                ∙ ap (λ (k : ℕ). take k all) (sym u.count);
            ahead = record { inner = 0; clean = λ j i. absurd (omega arith); is = d };
          },
          omega (arith, u.behind, size.0),
        )

  pub at_end_lem : length out ≤ o → out ≡ take (length out) all
  at_end_lem h =
      let e : o ≡ length out = omega (arith, c.room) in
      sym (take_all o out h) ∙ c.done ∙ ap (λ (k : ℕ). take k all) e

-- bytes before a backslash
module _ (s out : List ℕ) (at o : ℕ) where
  here : at + 0 ≡ at
  here = omega arith

  pub front_eight : (k : ℕ) (new : List ℕ) → at + 8 ≤ length s → o + 8 ≤ length out → First (λ j. eqb (get_or s (at + j) 0) 0x5c) 8 k
      → new ≡ sets out o (take 8 (drop at s)) → Fronted s at o out k new
  front_eight k new h f g w =
      let l : length (take 8 (drop at s)) ≡ 8 = length-take-le 8 (drop at s) (omega (arith, length-drop at s)) in
      record {
        bytes = take 8 (drop at s);
        inside = omega (arith, g.inside);
        known = omega (arith, g.inside);
        fits = omega arith;
        same = take-take k 8 (drop at s) g.inside;
        clean = λ j i z. never (let y : true ≡ false = sym (eq-eqb _ _ z) ∙ g.before j i in cc);
        none = λ z. ap (λ (i : ℕ). get_or s i 0) (let e : at ≡ at + k = omega arith in e) ∙ eqb-true _ _ (g.stop (omega arith));
        stored = w;
      }

  pub front_none : (b : ℕ) → at < length s → o < length out → b ≡ get_or (drop at s) 0 0 → b ≡ 0x5c → Fronted s at o out 0 out
  front_none b h f e q =
      let n : get_or s at 0 ≡ 0x5c = ap (λ (k : ℕ). get_or s k 0) (omega arith) ∙ sym (get_or-drop at s 0 0) ∙ sym e ∙ q in
      record { bytes = []; inside = omega arith; known = omega arith; fits = omega arith; same = refl; clean = λ j i z. absurd (omega arith); none = λ z. n; stored = refl }

  pub front_one : (b : ℕ) → at < length s → o < length out → b ≡ get_or (drop at s) 0 0 → (b ≡ 0x5c → ⊥) → Fronted s at o out 1 (set out o b)
  front_one b h f e q =
      record {
        bytes = b ∷ [];
        inside = omega arith;
        known = omega arith;
        fits = omega arith;
        same = rw e (rw (drop-cons s at 0 h) refl);
        clean = λ j i z. let d : at + j ≡ at + 0 = omega arith in q (e ∙ get_or-drop at s 0 0 ∙ sym (ap (λ (k : ℕ). get_or s k 0) d) ∙ z);
        none = λ z. absurd (omega arith);
        stored = refl;
      }

  pub front_moves : (n : ℕ) (new : List ℕ) → Fronted s at o out n new → (get_or s (at + n) 0 ≡ backslash → ⊥) → 0 < n
  front_moves zero new f q = absurd (q (ap (λ (k : ℕ). get_or s k 0) here ∙ f.none refl))
  front_moves (suc n) new f q = omega arith

-- one unit in code
module _ (st : Style) (s : List ℕ) (at o : ℕ) (out : List ℕ) where
  module _ (u : Result Found Refusal) (i : unit_of u ≡ unit_at st (drop at s)) where
    pub unit_filled : FewOf u → (n : ℕ) (few : Few) (new : List ℕ) → u ≡ Ok (Took n few) → new ≡ sets out o (few_of few) → Filled st s at o out (at + n) (o + few.count) new
    unit_filled f n few new e w =
        record {
          len = n;
          bytes = few_of few;
          is = sym i ∙ ap unit_of e;
          behind = refl;
          count = ap (λ (k : ℕ). o + k) (sym (length-take-le few.count (few.a ∷ few.b ∷ few.c ∷ few.d ∷ []) (took_few u n few e f)));
          stored = w;
        }

    pub no_close : {P : Type 0} → u ≡ Ok Close → 0 < length (units_bytes st 0 (drop at s)) → P
    no_close e h = absurd (omega (arith, ap length (bytes_close st (drop at s) (sym i ∙ ap unit_of e))))

    pub no_fault : {P : Type 0} (refusal : Refusal) → u ≡ Err refusal → 0 < length (units_bytes st 0 (drop at s)) → P
    no_fault refusal e h = absurd (omega (arith, ap length (bytes_fault st (drop at s) refusal (sym i ∙ ap unit_of e))))

  letter_inside : (x b : ℕ) → x ≡ get_or (drop (at + 1) s) 0 0 → b ≡ lookup x letters → (b ≡ 0 → ⊥) → at + 1 < length s
  unfolding lookup pick
  letter_inside x b ex eb z =
      split (ltb (at + 1) (length s)) (λ q. ltb-true _ _ q)
      (λ q. let e : drop (at + 1) s ≡ [] = drop_of_length-le s (ltb-false _ _ q) in
      let w : x ≡ 0 = ex ∙ ap (λ (l : List ℕ). get_or l 0 0) e in
      absurd (z (eb ∙ ap (λ (k : ℕ). lookup k letters) w)))

  pub letter_filled : (x b : ℕ) (new : List ℕ) → get_or s at 0 ≡ 0x5c → x ≡ get_or (drop (at + 1) s) 0 0 → b ≡ lookup x letters → (b ≡ 0 → ⊥) → new ≡ set out o b
      → Filled st s at o out (at + 2) (o + 1) new
  letter_filled x b new q ex eb z w =
      let i : at + 1 < length s = letter_inside x b ex eb z in
      let e : b ≡ lookup (get_or s (at + 1) 0) letters = eb ∙ ap (λ (k : ℕ). lookup k letters) (ex ∙ get_or-drop (at + 1) s 0 0 ∙ ap (λ (k : ℕ). get_or s k 0) (let y : at + 1 + 0 ≡ at + 1 = omega arith in y)) in
      record { len = 2; bytes = b ∷ []; is = pair_is st s at (omega arith) (omega arith) q b e z; behind = refl; count = refl; stored = w }

  pub point_filled : (v l : ℕ) (few : Few) (new : List ℕ) → unit_at st (drop at s) ≡ took (len_of v) (encode v) → few_of few ≡ encode v → few.count ≤ 4 → l ≡ len_of v → new ≡ sets out o (few_of few)
      → Filled st s at o out (at + l) (o + few.count) new
  point_filled v l few new e f h el w =
      record {
        len = l;
        bytes = few_of few;
        is = e ∙ (λ i. took (sym el i) (sym f i));
        behind = refl;
        count = ap (λ (k : ℕ). o + k) (sym (length-take-le few.count (few.a ∷ few.b ∷ few.c ∷ few.d ∷ []) h));
        stored = w;
      }

pub len_small : (v : ℕ) → len_of v ≤ 12
unfolding len_of
len_small v = pick_case (λ k. k ≤ 12) (ltb v 0x10000) 6 12 (λ e. lit≤ tt) (λ e. lit≤ tt)

-- a token
fit_of : (v : StringRead) (us out : List ℕ) → Denoted v us → length out ≡ length (denoted v) → 0 < length out → length out ≡ length us
fit_of (accepted bs e) us out d h p = h ∙ ap length (sym d)
fit_of (refused refusal at) us out d h p = absurd (omega arith)

none : (l : List ℕ) → length l ≡ 0 → l ≡ []
none [] e = refl
none (x ∷ r) e = absurd (omega arith)

told_of : (v : StringRead) (us out new : List ℕ) → Denoted v us → length out ≡ length (denoted v) → new ≡ take (length out) us → new ≡ denoted v
told_of (accepted bs e) us out new d h w = w ∙ ap (take (length out)) d ∙ take_all (length out) bs (omega arith)
told_of (refused refusal at) us out new d h w = w ∙ ap (λ (k : ℕ). take k us) (let z : length out ≡ 0 = h in z)

module _ (s out : List ℕ) (h : length out ≡ length (denoted (read_token s))) where
  module _ (st : Style) (from : ℕ) (e : opening s ≡ opens st from) where
    bytes_are : Denoted (read_token s) (units_bytes st 0 (drop from s))
    unfolding token_bytes
    bytes_are = subst (Denoted (read_token s)) (ap (λ w. bytes_from w s) e ∙ bytes_skip st from s) (token_denoted s)

    pub units_fit : 0 < length out → length out ≡ length (units_bytes st 0 (drop from s))
    units_fit p = fit_of (read_token s) _ out bytes_are h p

    pub units_told : (new : List ℕ) → new ≡ take (length out) (units_bytes st 0 (drop from s)) → new ≡ denoted (read_token s)
    units_told new w = told_of (read_token s) _ out new bytes_are h w

  pub none_told : opening s ≡ unopened → out ≡ denoted (read_token s)
  unfolding read_token
  none_told e = let z : length out ≡ 0 = rw e at h in rw e (none out z)
