-- A unit is read the same whatever follows the closing quote: two texts that are one up to it have the same digits, the same
-- character and the same low half at their head, since the quote is none of these.
-- Assumes nothing.
use Prim.Native.Nat.{ℕ, zero, suc, pred, ◌+◌, ◌-◌, ◌*◌, ◌≤◌}
use mathlib.Core.Bool.{true, false}
use mathlib.Core.List.{List, [], ◌∷◌, ◌++◌}
use mathlib.Core.Path.{◌≡◌, refl, sym, ◌∙◌}
use native.Mathlib.Omega.{arith}
use lib.Dec.{ltb, eqb, lit≤}
use lib.ListN.{take, drop, get_or}
use borrow.Author.Tests.{eqb-true, lt-leb}
use Rattle.prelude.specs.Bytes.{backslash}
use Rattle.prelude.specs.Pick.{pick}
use Rattle.prelude.proofs.Cases.{split, and_right}
use Rattle.utf8.specs.Class.{class_of}
use Rattle.utf8.specs.Utf8.{between, low_of, high_of, char_len, wanted, has_tails, start_bits, tails_on, value_of, fault_from, char_fault, char_by}
use Rattle.utf8.proofs.Faults.{fault_told}
use Rattle.utf8.proofs.Characters.{tails, size_of, low_bound, char_is, char_tails}
use Rattle.notation.specs.declared.styles.Style.{Style}
use Rattle.notation.specs.declared.styles.Style.TheVariants.{Json, Unicode, Bytes}
use Rattle.notation.specs.Styles.{quote}
use Rattle.escapes.specs.Hex.{hex_val, hex_digits, hex_run}
use Rattle.escapes.specs.Escapes.{low_half, four_digits, braced, code_point, raw_byte, escape}
use Rattle.units.specs.Units.{literal, unit_at}
use Rattle.notation.proofs.LiteralLaws.{quote_ascii}

-- two texts that are one up to a closing quote
pub data Agree (st : Style) : List ℕ → List ℕ → Type 0 where
  stop : {s t : List ℕ} → Agree st (quote st ∷ s) (quote st ∷ t)
  next : {x : ℕ} {s t : List ℕ} → Agree st s t → Agree st (x ∷ s) (x ∷ t)

pub append_agree : (st : Style) (a s t : List ℕ) → Agree st (a ++ (quote st ∷ s)) (a ++ (quote st ∷ t))
append_agree st [] s t = stop
append_agree st (x ∷ a) s t = next (append_agree st a s t)

quote_hex : (st : Style) → ltb (hex_val (quote st)) 16 ≡ false
unfolding hex_val pick
quote_hex Json = refl
quote_hex Unicode = refl
quote_hex Bytes = refl

digits_agree : (st : Style) (k : ℕ) {s t : List ℕ} → Agree st s t → hex_digits k s ≡ hex_digits k t
unfolding hex_digits pick
digits_agree st zero a = refl
digits_agree st (suc k) stop = simp (quote_hex st)
digits_agree st (suc k) (next {x = x} a) = rw (digits_agree st k a)

past_agree : (st : Style) (k : ℕ) {s t : List ℕ} → Agree st s t → get_or s (hex_run k s) 0 ≡ get_or t (hex_run k t) 0
unfolding hex_digits pick
past_agree st zero stop = refl
past_agree st zero (next a) = refl
past_agree st (suc k) stop = simp (quote_hex st)
past_agree st (suc k) (next {x = x} a) = split (ltb (hex_val x) 16) (λ e. simp e (past_agree st k a)) (λ e. simp e)

low_agree : (st : Style) {s t : List ℕ} → Agree st s t → low_half s ≡ low_half t
unfolding low_half pick
low_agree Json stop = refl
low_agree Unicode stop = refl
low_agree Bytes stop = refl
low_agree Json (next {x = x} stop) = split (eqb x backslash) (λ e. simp e) (λ e. simp e)
low_agree Unicode (next {x = x} stop) = split (eqb x backslash) (λ e. simp e) (λ e. simp e)
low_agree Bytes (next {x = x} stop) = split (eqb x backslash) (λ e. simp e) (λ e. simp e)
low_agree st (next (next a)) = simp (digits_agree st 4 a)

drop_agree : (st : Style) (k : ℕ) {s t : List ℕ} → Agree st s t → Agree st (drop (hex_run k s) s) (drop (hex_run k s) t)
unfolding hex_digits pick
drop_agree st zero a = a
drop_agree st (suc k) stop = simp (quote_hex st) stop
drop_agree st (suc k) (next {x = x} a) = split (ltb (hex_val x) 16) (λ e. simp e (drop_agree st k a)) (λ e. simp e (next a))

four_agree : (st : Style) {s t : List ℕ} → Agree st s t → four_digits s ≡ four_digits t
unfolding four_digits pick
four_agree st {s} {t} a =
    split (eqb (hex_run 4 s) 4)
    (λ e. let l : low_half (drop 4 s) ≡ low_half (drop 4 t) = low_agree st (rw (eqb-true (hex_run 4 s) 4 e) at (drop_agree st 4 a)) in
    simp (← digits_agree st 4 a, e, l))
    (λ e. simp (← digits_agree st 4 a, e))

braced_agree : (st : Style) {s t : List ℕ} → Agree st s t → braced s ≡ braced t
unfolding braced pick
braced_agree Json stop = refl
braced_agree Unicode stop = refl
braced_agree Bytes stop = refl
braced_agree st (next a) = rw (past_agree st 7 a, digits_agree st 7 a)

raw_agree : (st sq : Style) {s t : List ℕ} → Agree sq s t → raw_byte st s ≡ raw_byte st t
unfolding raw_byte
raw_agree Json sq a = refl
raw_agree Unicode sq a = refl
raw_agree Bytes sq a = simp (digits_agree sq 2 a)

code_agree : (st sq : Style) {s t : List ℕ} → Agree sq s t → code_point st s ≡ code_point st t
code_agree Json sq a = four_agree sq a
code_agree Unicode sq a = braced_agree sq a
code_agree Bytes sq a = braced_agree sq a

escape_agree : (st : Style) {s t : List ℕ} → Agree st s t → escape st s ≡ escape st t
unfolding escape pick
escape_agree Json stop = refl
escape_agree Unicode stop = refl
escape_agree Bytes stop = refl
escape_agree st (next a) = simp (code_agree st st a, raw_agree st st a)

tails_agree : (st : Style) (lo hi n : ℕ) {s t : List ℕ} → 0x80 ≤ lo → Agree st s t → tails lo hi n s ≡ tails lo hi n t
unfolding tails
tails_agree st lo hi zero h a = refl
tails_agree st lo hi (suc n) h stop = simp (lt-leb lo (quote st) (omega (arith, (quote_ascii st).1)))
tails_agree st lo hi (suc n) h (next a) = simp (tails_agree st 0x80 0xbf n (lit≤ tt) a)

take_agree : (st : Style) (lo hi n : ℕ) {s t : List ℕ} → 0x80 ≤ lo → Agree st s t → tails lo hi n s ≡ true → take n s ≡ take n t
unfolding tails
take_agree st lo hi zero h a e = refl
take_agree st lo hi (suc n) h stop e = let z : ◌≡◌ {A = ℕ} 0 1 = cc (lt-leb lo (quote st) (omega (arith, (quote_ascii st).1))) in absurd (omega arith)
take_agree st lo hi (suc n) h (next {x = x} a) e = rw (take_agree st 0x80 0xbf n (lit≤ tt) a (and_right (between lo hi x) _ e))

char_agree : (st : Style) (x : ℕ) {s t : List ℕ} → Agree st s t → char_len (x ∷ s) ≡ char_len (x ∷ t)
char_agree st x {s} {t} a =
    char_is x s ∙ rw (tails_agree st (low_of (class_of x)) (high_of (class_of x)) (pred (size_of (class_of x))) (low_bound (class_of x)) a) (sym (char_is x t))

-- the fault by the continuation bytes alone, which the quote is none of
has_agree : (st : Style) (n : ℕ) {s t : List ℕ} → Agree st s t → has_tails n s ≡ has_tails n t
unfolding has_tails
has_agree st zero a = refl
has_agree st (suc n) stop = simp (lt-leb 0x80 (quote st) (omega (arith, (quote_ascii st).1)))
has_agree st (suc n) (next a) = simp (has_agree st n a)

value_agree : (st : Style) (n v : ℕ) {s t : List ℕ} → Agree st s t → has_tails n s ≡ true → tails_on v n s ≡ tails_on v n t
unfolding has_tails tails_on
value_agree st zero v a e = refl
value_agree st (suc n) v stop e = let z : ◌≡◌ {A = ℕ} 0 1 = cc (lt-leb 0x80 (quote st) (omega (arith, (quote_ascii st).1))) in absurd (omega arith)
value_agree st (suc n) v (next {x = x} a) e = value_agree st n (v * 0x40 + (x - 0x80)) a (and_right (between 0x80 0xbf x) _ e)

fault_agree : (st : Style) (x : ℕ) {s t : List ℕ} → Agree st s t → char_fault (x ∷ s) ≡ char_fault (x ∷ t)
unfolding char_fault fault_from value_of pick
fault_agree st x {s} a =
    split (has_tails (wanted x) s)
    (λ e. rw (← has_agree st (wanted x) a, e, value_agree st (wanted x) (start_bits x) a e))
    (λ e. rw (← has_agree st (wanted x) a, e))

literal_agree : (st : Style) (x : ℕ) {s t : List ℕ} (n : ℕ) → char_len (x ∷ s) ≡ n → Agree st s t
    → literal (char_by n (x ∷ s)) (x ∷ s) ≡ literal (char_by n (x ∷ t)) (x ∷ t)
literal_agree st x {s} {t} zero e a =
    let (f, (p, b)) = fault_told (x ∷ s) e in
    let q = sym (fault_agree st x a) ∙ p in rw (p, q)
literal_agree st x {s} (suc n) e a = rw (take_agree st (low_of (class_of x)) (high_of (class_of x)) n (low_bound (class_of x)) a (char_tails x s n e).1)

pub unit_agree : (st : Style) {s t : List ℕ} → Agree st s t → unit_at st s ≡ unit_at st t
unfolding unit_at pick
unit_agree Json stop = refl
unit_agree Unicode stop = refl
unit_agree Bytes stop = refl
unit_agree st (next {x = x} {s = s} {t = t} a) =
    simp (escape_agree st a, ← char_agree st x a, literal_agree st x (char_len (x ∷ s)) refl a)
