-- Writing where the room surely holds the text: the front, and then the text of the bytes behind it, or the other form over all of it.
-- Assumes nothing.
use mathlib.Core.Path.{◌≡◌, refl, sym, ap, ◌∙◌, subst}
use mathlib.Core.Bool.{Bool, true, false}
use mathlib.Core.List.{List, [], ◌∷◌, ◌++◌, append_assoc}
use Prim.Native.Nat.{ℕ, ◌+◌, ◌-◌, ◌*◌, ◌≤◌}
use native.Mathlib.Omega.{arith}
use Rattle.std.specs.Prelude.{Option, Some}
use lib.ListN.{length, take, drop, set, length-append, length-drop, drop_of_length-le}
use lib.Seq.{sets, take-add, take_all, take-length, drop-drop, length-take-le}
use Rattle.prelude.specs.Bytes.{double_quote}
use Rattle.prelude.proofs.Stores.{sets_append, sets_again}
use Rattle.utf8.specs.Utf8.{valid_from, valid_utf8}
use Rattle.utf8.specs.inner.Checks.{ValidAs}
use Rattle.notation.specs.declared.styles.Style.TheVariants.{Json}
use Rattle.notation.specs.declared.styles.Form.TheVariants.{AsJson, AsBytes}
use Rattle.notation.specs.Literals.{literal_run}
use Rattle.runs.specs.inner.Blocks.{Running}
use Rattle.notation.proofs.LiteralLaws.{run_fits, run_valid}
use Rattle.strings_write.specs.Write.{write_units, quoted, write_string}
use Rattle.strings_write.specs.inner.Passes.{Passed}
use Rattle.bytewise.specs.inner.Bytewise.{bytes_text, text_of, Texted, Fronted}
use Rattle.strings_write.proofs.WriteLengths.{quoted_length, quoted_least, write_length}
use Rattle.strings_write.proofs.WriteSteps.{write_run}
use Rattle.strings_write.proofs.ValidTexts.{bytewise}
use Rattle.strings_write.proofs.Writing.{valid_text, other_text, finished, stored_whole, literal_part}

module _ (s : List ℕ) (at : ℕ) (k : Running Json s 0 at) where
  abbrev run : ℕ
  run = literal_run Json 0 (drop at s)

  run_end : drop (literal_run Json 0 s) s ≡ drop run (drop at s)
  run_end = sym (drop-drop run at s ∙ ap (λ (i : ℕ). drop i s) (let e : at + run ≡ literal_run Json 0 s = omega (arith, k.same) in e))

  written_from : write_units AsJson 0 s ≡ take at s ++ write_units AsJson 0 (drop at s)
  written_from =
      let e : literal_run Json 0 s ≡ at + run = omega (arith, k.same) in
      write_run AsJson s
      ∙ (λ i. (ap (λ (n : ℕ). take n s) e ∙ take-add at run s) i ++ write_units AsJson 0 (run_end i))
      ∙ append_assoc (take at s) (take run (drop at s)) (write_units AsJson 0 (drop run (drop at s)))
      ∙ ap (λ (x : List ℕ). take at s ++ x) (sym (write_run AsJson (drop at s)))

  pub valid_from_lem : valid_utf8 s ≡ valid_utf8 (drop at s)
  valid_from_lem = run_valid Json s ∙ ap valid_utf8 run_end ∙ sym (run_valid Json (drop at s))

-- what is behind a place, all of it
module _ (s : List ℕ) (at : ℕ) where
  rest : take (length s - at) (drop at s) ≡ drop at s
  rest = rw (← length-drop at s) (take-length (drop at s))

  pub part_judged : (v : Bool) → v ≡ valid_utf8 (take (length s - at) (drop at s)) → v ≡ valid_utf8 (drop at s)
  part_judged v e = e ∙ ap valid_utf8 rest

  pub nothing_left : at ≡ length s → true ≡ valid_utf8 (drop at s)
  unfolding valid_from
  nothing_left e = let l : length s ≤ at = omega arith in sym (ap (valid_from 0) (drop_of_length-le s l))

  pub ascii_left : ValidAs s at (length s) → true ≡ valid_utf8 (drop at s)
  unfolding valid_from
  ascii_left k = let l : length s ≤ length s = omega arith in sym (ap (valid_from 0) (drop_of_length-le s l)) ∙ k.same

module _ (s o : List ℕ) (at room : ℕ) (out : List ℕ) (f : Fronted s o at out) where
  -- all of the data
  pub all_front : at ≡ length s → 6 * length s + 2 ≤ room → Passed (write_string s) room (Some (at + 2)) o (set out (at + 1) double_quote)
  all_front e h =
      let z : literal_run Json 0 (drop at s) ≤ length s - at = rw (length-drop at s) at (run_fits Json (drop at s)) in
      let l : literal_run Json 0 s ≡ length s = omega (arith, f.run.same) in
      let w : out ≡ sets (set o 0 double_quote) 1 (take (length s) s) = f.stored ∙ ap (λ (i : ℕ). sets (set o 0 double_quote) 1 (take i s)) e in
      subst (λ (i : ℕ). Passed (write_string s) room (Some (i + 2)) o (set out (i + 1) double_quote)) (sym e) (literal_part s o l (omega arith) refl w refl)

  -- valid data
  module _ (v : true ≡ valid_utf8 (drop at s)) where
    whole : quoted AsJson s ≡ (double_quote ∷ take at s) ++ (text_of s at (length s) ++ (double_quote ∷ []))
    unfolding quoted
    whole =
        ap (λ (x : List ℕ). double_quote ∷ (x ++ (double_quote ∷ []))) (written_from s at f.run ∙ ap (λ (x : List ℕ). take at s ++ x) (bytewise (drop at s) (sym v) ∙ ap bytes_text (sym (rest s at))))
        ∙ ap (λ (x : List ℕ). double_quote ∷ x) (append_assoc (take at s) (text_of s at (length s)) (double_quote ∷ []))

    pub valid_text_behind : (r : ℕ) (out2 : List ℕ) → 6 * length s + 2 ≤ room → Texted s at (length s) (at + 1) out r out2 → Passed (write_string s) room (Some (r + 1)) o (set out2 r double_quote)
    valid_text_behind r out2 h w =
        let t : List ℕ = text_of s at (length s) in
        let n : length (double_quote ∷ take at s) ≡ at + 1 = omega (arith, length-take-le at s f.run.inside) in
        let l : length (quoted AsJson s) ≡ r + 1 = ap length whole ∙ omega (arith, length-append (double_quote ∷ take at s) (t ++ (double_quote ∷ [])), length-append t (double_quote ∷ []), w.size) in
        let p : set out2 r double_quote ≡ sets o 0 (quoted AsJson s) =
        ap (λ (x : List ℕ). set x r double_quote) w.stored
        ∙ sets_append t (double_quote ∷ []) out (at + 1) r (sym w.size)
        ∙ ap (λ (x : List ℕ). sets x (at + 1) (t ++ (double_quote ∷ []))) f.stored
        ∙ sets_append (double_quote ∷ take at s) (t ++ (double_quote ∷ [])) o 0 (at + 1) (omega arith)
        ∙ ap (sets o 0) (sym whole) in
        rw (valid_text s (valid_from_lem s at f.run ∙ sym v)) (finished (omega (arith, quoted_length AsJson s)) l p)

  -- any other data: its text covers the front
  pub other_text_over : (r : Option ℕ) (new : List ℕ) → 6 * length s + 2 ≤ room → false ≡ valid_utf8 (drop at s) → Passed (quoted AsBytes s) room r out new → Passed (write_string s) room r o new
  other_text_over r new h v p =
      let n : length (double_quote ∷ take at s) ≤ length (quoted AsBytes s) = omega (arith, length-take-le at s f.run.inside, quoted_least AsBytes s, f.run.inside) in
      let e : write_string s ≡ quoted AsBytes s = other_text s (valid_from_lem s at f.run ∙ sym v) in
      let l : length (quoted AsBytes s) ≤ room = omega (arith, write_length s, ap length e) in
      rw e (record {
        answer = p.answer;
        stored = stored_whole p l ∙ ap (λ (x : List ℕ). sets x 0 (quoted AsBytes s)) f.stored ∙ sets_again (double_quote ∷ take at s) (quoted AsBytes s) o 0 n
            ∙ ap (sets o 0) (sym (take_all room (quoted AsBytes s) l));
      })
