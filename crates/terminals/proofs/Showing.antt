-- What is shown of a text, byte by byte: the bytes shown so far are put, and the rest follows by the mode reached.
-- Assumes nothing.
use Prim.Native.Nat.{ℕ, suc, ◌+◌, ◌≤◌, ◌<◌}
use mathlib.Core.Bool.{false}
use mathlib.Core.List.{List, [], ◌∷◌, ◌++◌, append_assoc, append-nil}
use mathlib.Core.Path.{◌≡◌, sym, ap, ◌∙◌}
use native.Mathlib.Omega.{arith}
use lib.ListN.{length, get_or, drop, drop_of_length-le}
use lib.Seq.{drop-cons}
use Rattle.std.specs.Prelude.{Option, None}
use Rattle.rooms.specs.inner.Puts.{Put}
use Rattle.rooms.proofs.Puts.{put_none, put_then, put_as}
use Rattle.terminals.specs.declared.Control.{Control}
use Rattle.terminals.specs.declared.Mode.{Mode}
use Rattle.terminals.specs.Terminals.{mode, control_in, byte_text, mode_after, safe_from, safe_text}

-- the bytes before a place are shown and put
pub record Showing (text : List ℕ) (room : ℕ) (out : List ℕ) (m : Mode) (at o : ℕ) (new : List ℕ) : Type 0 where
  pub done : List ℕ
  pub same : safe_text text ≡ done ++ safe_from m (drop at text)
  pub put : Put done room 0 o out new

pub showing_first : {text : List ℕ} {room : ℕ} {out : List ℕ} (m : Mode) → m ≡ mode None false 0 → Showing text room out m 0 0 out
showing_first {text} m e = record { done = []; same = ap (λ (z : Mode). safe_from z text) (sym e); put = put_none }

module _ {text : List ℕ} {room : ℕ} {out : List ℕ} {m : Mode} {at o : ℕ} {mid : List ℕ} (s : Showing text room out m at o mid) where
  pub showing_next : {c : Option Control} {n : Mode} {p : ℕ} {new : List ℕ} → at < length text → c ≡ control_in m (drop at text)
      → Put (byte_text m c (get_or text at 0)) room o p mid new → n ≡ mode_after m c (get_or text at 0) → Showing text room out n (at + 1) p new
  unfolding safe_from
  showing_next {c} {n} {p} {new} h e w g =
      let x : ℕ = get_or text at 0 in
      let r : List ℕ = drop (suc at) text in
      let k : suc at ≡ at + 1 = omega arith in
      let d : drop at text ≡ x ∷ r = drop-cons text at 0 h in
      let f : control_in m (x ∷ r) ≡ c = ap (control_in m) (sym d) ∙ sym e in
      let u : safe_from m (drop at text) ≡ byte_text m c x ++ safe_from n (drop (at + 1) text) =
      ap (safe_from m) d ∙ ap (λ (z : Option Control). byte_text m z x ++ safe_from (mode_after m z x) r) f
      ∙ ap (λ (z : Mode). byte_text m c x ++ safe_from z r) (sym g) ∙ ap (λ (z : ℕ). byte_text m c x ++ safe_from n (drop z text)) k in
      record {
        done = s.done ++ byte_text m c x;
        same = s.same ∙ ap (λ (z : List ℕ). s.done ++ z) u ∙ sym (append_assoc s.done (byte_text m c x) (safe_from n (drop (at + 1) text)));
        put = put_then s.put w;
      }

  pub showing_last : length text ≤ at → Put (safe_text text) room 0 o out mid
  unfolding safe_from
  showing_last h =
      put_as (s.same ∙ ap (λ (z : List ℕ). s.done ++ safe_from m z) (drop_of_length-le text h) ∙ append-nil s.done) s.put
