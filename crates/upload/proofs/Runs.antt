-- The bytes of a piece, in parts; a run without LF, stored at once, is what its bytes give one by one: by induction on the run.
-- Assumes nothing.
use Prim.Native.Nat.{ℕ, zero, suc, ◌+◌, ◌≤◌, ◌<◌}
use mathlib.Core.List.{List, [], ◌∷◌, ◌++◌}
use mathlib.Core.Path.{◌≡◌, refl, sym, ap, ◌∙◌}
use native.Mathlib.Nat.{add-zero}
use native.Mathlib.Numerals.{add-one}
use native.Mathlib.Omega.{arith}
use borrow.Author.Tests.{eqb-false}
use lib.Dec.{eqb}
use lib.ListN.{length, take, drop, get_or, set, length-drop, take-append-drop}
use lib.Seq.{sets, take-add, take_all, take-suc, length-take-le}
use Rattle.prelude.proofs.Cases.{split}
use Rattle.upload.specs.declared.uploads.Upload.{Upload}
use Rattle.prelude.specs.Bytes.{LF}
use Rattle.prelude.specs.Limits.{upload_max, line_max}
use Rattle.prelude.specs.Pick.{pick}
use Rattle.upload.specs.Calls.{Lent, lent, with_counts, stored, feed_byte, feed_bytes}
use Rattle.line_ends.specs.inner.Ends.{line_run}
use Rattle.line_ends.proofs.Ends.{run_nil, run_on, run_lf}
use Rattle.upload.proofs.Kept.{state_path, lent_path}
use Rattle.upload.proofs.Values.{byte_kept, byte_stored}

bytes_cons : (m : Lent) (b : ℕ) (bs : List ℕ) → feed_bytes m (b ∷ bs) ≡ feed_bytes (feed_byte m b) bs
unfolding feed_bytes pick
bytes_cons m b bs = refl

pub bytes_nil : (m : Lent) → feed_bytes m [] ≡ m
unfolding feed_bytes pick
bytes_nil m = refl

pub bytes_append : (xs ys : List ℕ) (m : Lent) → feed_bytes m (xs ++ ys) ≡ feed_bytes (feed_bytes m xs) ys
bytes_append [] ys m = ap (λ (w : Lent). feed_bytes w ys) (sym (bytes_nil m))
bytes_append (x ∷ xs) ys m = bytes_cons m x (xs ++ ys) ∙ bytes_append xs ys (feed_byte m x) ∙ ap (λ (w : Lent). feed_bytes w ys) (sym (bytes_cons m x xs))

pub bytes_kept : (xs : List ℕ) (s : Upload) (line out : List ℕ) → (s.refusal ≡ 0 → ⊥) → lent s line out ≡ feed_bytes (lent s line out) xs
bytes_kept [] s line out e = sym (bytes_nil (lent s line out))
bytes_kept (x ∷ xs) s line out e =
    bytes_kept xs s line out e ∙ ap (λ (w : Lent). feed_bytes w xs) (byte_kept s line out x e) ∙ sym (bytes_cons (lent s line out) x xs)

none_run : (s : Upload) (line out : List ℕ) → stored (lent s line out) [] ≡ lent s line out
none_run s line out =
    lent_path _ _ (state_path _ _ (add-zero s.taken) refl (add-zero s.held) refl refl refl refl refl) refl refl

one_run : (s : Upload) (line out : List ℕ) (x : ℕ) (xs : List ℕ) → stored (lent s line out) (x ∷ xs) ≡ stored (stored (lent s line out) (x ∷ [])) xs
one_run s line out x xs =
    lent_path _ _
    (state_path _ _ (let h : s.taken + suc (length xs) ≡ s.taken + 1 + length xs = omega arith in h) refl (let h : s.held + suc (length xs) ≡ s.held + 1 + length xs = omega arith in h) refl refl refl refl refl)
    (ap (λ (k : ℕ). sets (set line s.held x) k xs) (sym (add-one s.held)))
    refl

pub bytes_run : (n : ℕ) (r : List ℕ) (s : Upload) (line out : List ℕ) → n ≤ line_run r → s.refusal ≡ 0 → s.held + n ≤ line_max → s.taken + n ≤ upload_max
    → stored (lent s line out) (take n r) ≡ feed_bytes (lent s line out) (take n r)
bytes_run zero r s line out h e a b = none_run s line out ∙ sym (bytes_nil (lent s line out))
bytes_run (suc n) [] s line out h e a b = let z : line_run [] ≡ 0 = run_nil in absurd (let q : ⊥ = omega arith in q)
bytes_run (suc n) (x ∷ r) s line out h e a b =
    split (eqb x LF)
    (λ p. let z : line_run (x ∷ r) ≡ 0 = run_lf x r p in absurd (let q : ⊥ = omega arith in q))
    (λ p. let z : line_run (x ∷ r) ≡ suc (line_run r) = run_on x r p in
    one_run s line out x (take n r)
    ∙ bytes_run n r (stored (lent s line out) (x ∷ [])).state (set line s.held x) out (omega arith) e (omega arith) (omega arith)
    ∙ ap (λ (w : Lent). feed_bytes w (take n r)) (byte_stored s line out x e (λ q. omega arith) (eqb-false x LF p) (λ q. omega arith))
    ∙ sym (bytes_cons (lent s line out) x (take n r)))

-- a run behind the bytes taken
pub run_next : (m : Lent) (piece : List ℕ) (i a : ℕ) (s : Upload) (line out : List ℕ) → lent s line out ≡ feed_bytes m (take i piece)
    → a ≤ line_run (drop i piece) → s.refusal ≡ 0 → s.held + a ≤ line_max → s.taken + a ≤ upload_max
    → (v : Lent) → v ≡ stored (lent s line out) (take a (drop i piece)) → v ≡ feed_bytes m (take (i + a) piece)
run_next m piece i a s line out w h e x y v q =
    q ∙ bytes_run a (drop i piece) s line out h e x y
    ∙ ap (λ (k : Lent). feed_bytes k (take a (drop i piece))) w
    ∙ sym (bytes_append (take i piece) (take a (drop i piece)) m)
    ∙ ap (λ (l : List ℕ). feed_bytes m l) (sym (take-add i a piece))

-- a run as the code stores it
pub run_stored : (s : Upload) (piece line new out : List ℕ) (i a : ℕ) → i + a ≤ length piece → new ≡ sets line s.held (take a (drop i piece))
    → lent (with_counts s (s.taken + a) s.lfs (s.held + a) s.used) new out ≡ stored (lent s line out) (take a (drop i piece))
run_stored s piece line new out i a h e =
    rw (length-take-le a (drop i piece) (omega (arith, length-drop i piece)), e)

-- the byte behind it, and the end
bytes_snoc : (m : Lent) (bs : List ℕ) (b : ℕ) → feed_bytes m (bs ++ (b ∷ [])) ≡ feed_byte (feed_bytes m bs) b
unfolding feed_bytes
bytes_snoc m bs b = bytes_append bs (b ∷ []) m

pub bytes_next : (m : Lent) (piece : List ℕ) (i : ℕ) → i < length piece → (w v : Lent) → w ≡ feed_bytes m (take i piece) → v ≡ feed_byte w (get_or piece i 0) → v ≡ feed_bytes m (take (i + 1) piece)
bytes_next m piece i h w v e q = rw (q, e, add-one i, take-suc piece i 0 h, bytes_snoc m (take i piece) (get_or piece i 0))

pub bytes_all : (m : Lent) (piece : List ℕ) (i : ℕ) (w : Lent) → length piece ≤ i → w ≡ feed_bytes m (take i piece) → w ≡ feed_bytes m piece
bytes_all m piece i w h e = rw (take_all i piece h) at e

-- nothing changes behind a refusal
pub bytes_stay : (m : Lent) (piece : List ℕ) (i : ℕ) (s : Upload) (line out : List ℕ) → lent s line out ≡ feed_bytes m (take i piece) → (s.refusal ≡ 0 → ⊥) → lent s line out ≡ feed_bytes m piece
bytes_stay m piece i s line out w e =
    bytes_kept (drop i piece) s line out e
    ∙ ap (λ (k : Lent). feed_bytes k (drop i piece)) w
    ∙ sym (bytes_append (take i piece) (drop i piece) m)
    ∙ ap (λ (l : List ℕ). feed_bytes m l) (take-append-drop i piece)
