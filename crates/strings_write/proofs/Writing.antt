-- The pass over the data: the text is what is written already and then what the rest of the data is written as, a run or an escape at
-- a time; so the count passes the room exactly if the text does.
-- Assumes nothing.
use mathlib.Core.Path.{◌≡◌, refl, sym, ap, ◌∙◌, subst}
use mathlib.Core.Bool.{Bool, true, false}
use mathlib.Core.List.{List, [], ◌∷◌, ◌++◌, append_assoc, append-nil}
use Prim.Native.Nat.{ℕ, suc, ◌+◌, ◌-◌, ◌≤◌, ◌<◌}
use native.Mathlib.Omega.{arith}
use borrow.Author.Tests.{le-leb, lt-leb, leb-true, leb-false}
use lib.Dec.{leb}
use lib.ListN.{length, get_or, take, drop, set, length-drop, length-append, length-set, length-take, drop_of_length-le, take-append-drop}
use lib.Seq.{sets, length-sets, length-take-le, take_all, take-length, take-append-le, drop-drop, drop-cons, set-append_left}
use Rattle.prelude.specs.Bytes.{double_quote}
use Rattle.prelude.specs.Pick.{pick}
use Rattle.prelude.proofs.Cases.{split, never}
use Rattle.prelude.proofs.Stores.{sets_append, sets_over, sets_out, clipped, empty_front}
use Rattle.utf8.specs.Utf8.{valid_utf8}
use Rattle.notation.specs.declared.styles.Style.{Style}
use Rattle.notation.specs.declared.styles.Style.TheVariants.{Json}
use Rattle.notation.specs.declared.styles.Form.{Form}
use Rattle.notation.specs.declared.styles.Form.TheVariants.{AsJson, AsBytes}
use Rattle.notation.specs.Styles.{quote, style_of}
use Rattle.notation.specs.Literals.{literal_len, literal_run}
use Rattle.units.specs.Written.{escape_byte}
use Rattle.runs.specs.inner.Blocks.{Running}
use Rattle.notation.proofs.LiteralLaws.{run_fits, run_ends, run_valid, all_literal}
use Rattle.runs.proofs.LiteralRuns.{at_end_lem}
use Rattle.units.proofs.EscapeStores.{escape_written}
use Rattle.units.proofs.WrittenUnits.{limit}
use Rattle.std.specs.Prelude.{Option, Some, None, Result, Ok, Err}
use Rattle.std.specs.Option.{ok_or}
use Rattle.prelude.specs.declared.refusals.Refusal.{Refusal}
use Rattle.prelude.specs.Refusals.{no_room}
use Rattle.strings_write.specs.Write.{write_units, mark, quoted, write_string, written_in, wrote_into}
use Rattle.strings_write.specs.inner.Passes.{Passed}
use Rattle.strings_write.proofs.WriteLengths.{quoted_length}
use Rattle.strings_write.proofs.WriteSteps.{write_run}

-- the units of s and the closing quote
abbrev closed : Form → List ℕ → List ℕ
closed form s = write_units form 0 s ++ (quote (style_of form) ∷ [])

-- a pass that stops: what is stored reaches the end of a buffer that isn't longer than the room
stopped : {text : List ℕ} {room : ℕ} {out new : List ℕ} (done rest : List ℕ) → text ≡ done ++ rest → room < length text → length out ≤ room → length out ≤ length done
    → new ≡ sets out 0 done → Passed text room None out new
unfolding pick
stopped {text} {room} {out} done rest e h l g w = record {
  answer = rw (lt-leb (length text) room h);
  stored = sym (clipped text out 0 room (length text) (omega arith) (omega arith) (λ z. omega arith) (omega arith)
      ∙ ap (sets out 0) (take-length text ∙ e) ∙ sym (sets_append done rest out 0 (length done) (omega arith))
      ∙ sets_out rest (sets out 0 done) (length done) (omega (arith, length-sets out 0 done)) ∙ sym w);
}

-- one that ends
pub finished : {text : List ℕ} {room r : ℕ} {out new : List ℕ} → length text ≤ room → length text ≡ r → new ≡ sets out 0 text → Passed text room (Some r) out new
unfolding pick
finished {text} {room} {r} {out} h e w =
    record { answer = rw (le-leb (length text) room h) (ap Some (sym e)); stored = w ∙ ap (sets out 0) (sym (take_all room text h)) }

pub stored_whole : {text : List ℕ} {room : ℕ} {r : Option ℕ} {out new : List ℕ} → Passed text room r out new → length text ≤ room → new ≡ sets out 0 text
stored_whole {text} {room} {r} {out} p h = p.stored ∙ ap (sets out 0) (take_all room text h)

-- a pass over the part of a buffer that lies in the room
sets_front : (xs pre post : List ℕ) (i : ℕ) → i + length xs ≤ length pre → sets pre i xs ++ post ≡ sets (pre ++ post) i xs
sets_front [] pre post i h = refl
sets_front (v ∷ xs) pre post i h =
    sets_front xs (set pre i v) post (suc i) (omega (arith, length-set pre i v)) ∙ ap (λ (l : List ℕ). sets l (suc i) xs) (sym (set-append_left pre post i v (omega arith)))

pub part_passed : {text : List ℕ} {room : ℕ} {r : Option ℕ} {n : ℕ} {out new : List ℕ} → (room ≤ length out → n ≡ room) → (length out ≤ room → n ≡ length out)
    → Passed text room r (take n out) new → Passed text room r out (new ++ drop n out)
part_passed {text} {room} {r} {n} {out} {new} f g p = record {
  answer = p.answer;
  stored = ap (λ (l : List ℕ). l ++ drop n out) p.stored ∙ split (leb room (length out))
      (λ e. let h : n ≡ room = f (leb-true _ _ e) in let k : room ≤ length out = leb-true _ _ e in
      sets_front (take room text) (take n out) (drop n out) 0 (omega (arith, length-take room text, length-take-le n out (omega arith)))
      ∙ ap (λ (l : List ℕ). sets l 0 (take room text)) (take-append-drop n out))
      (λ e. let k : length out ≤ n = omega (arith, leb-false room (length out) e, g (omega (arith, leb-false room (length out) e))) in
      rw (take_all n out k, drop_of_length-le out k) (append-nil (sets out 0 (take room text))));
}

-- the loop's invariant: `done` is written, and the rest of the text is that of the data from `at` on
pub record Writing (form : Form) (s : List ℕ) (room : ℕ) (out₀ : List ℕ) (at o : ℕ) (out : List ℕ) : Type 0 where
  pub inside : at ≤ length s
  pub below : o < room
  pub done : List ℕ
  pub size : length done ≡ o
  pub same : quoted form s ≡ done ++ closed form (drop at s)
  pub stored : (t : List ℕ) → out₀ ≡ sets t 0 (mark form) → out ≡ sets t 0 done

-- the mark alone, which passes the room or begins the loop
module _ (form : Form) (s : List ℕ) {room f : ℕ} (e : f ≡ length (mark form)) where
  pub mark_stuck : {out new : List ℕ} → room ≤ f → length out ≤ room → new ≡ sets out 0 (mark form) → Passed (quoted form s) room None out new
  unfolding quoted
  mark_stuck h l w = stopped (mark form) (closed form s) refl
      (omega (arith, length-append (mark form) (closed form s), length-append (write_units form 0 s) (quote (style_of form) ∷ []))) l (omega arith) w

  pub begun : {out₀ : List ℕ} → f < room → Writing form s room out₀ 0 f out₀
  unfolding quoted
  begun h = record { inside = omega arith; below = h; done = mark form; size = sym e; same = refl; stored = λ t w. w }

-- one byte by its escape, where the run stops at once
escape_step : (form : Form) (s : List ℕ) (at : ℕ) → at < length s → literal_run (style_of form) 0 (drop at s) ≡ 0
    → write_units form 0 (drop at s) ≡ escape_byte form (get_or s at 0) ++ write_units form 0 (drop (at + 1) s)
unfolding write_units
escape_step form s at h e =
    let l : literal_len (style_of form) (get_or s at 0 ∷ drop (suc at) s) ≡ 0 =
    ap (literal_len (style_of form)) (sym (drop-cons s at 0 h)) ∙ (rw e at (run_ends (style_of form) (drop at s))) in
    let w = escape_written form (get_or s at 0) (drop (suc at) s) l in
    let a : suc at ≡ at + 1 = omega arith in
    rw (← a, drop-cons s at 0 h, w.0, w.1) refl

module _ {form : Form} {s : List ℕ} {room : ℕ} {out₀ : List ℕ} {at o : ℕ} {out : List ℕ} (i : Writing form s room out₀ at o out) where
  pub kept : (t : List ℕ) → out₀ ≡ sets t 0 (mark form) → length out ≡ length t
  kept t g = ap length (i.stored t g) ∙ length-sets t 0 i.done

  -- the next `u` bytes of the data are written as `p`
  module _ (p : List ℕ) (u : ℕ) (step : write_units form 0 (drop at s) ≡ p ++ write_units form 0 (drop (at + u) s)) where
    parts : quoted form s ≡ (i.done ++ p) ++ closed form (drop (at + u) s)
    parts = i.same ∙ ap (λ (x : List ℕ). i.done ++ x) (ap (λ (x : List ℕ). x ++ (quote (style_of form) ∷ [])) step ∙ append_assoc p _ _) ∙ sym (append_assoc i.done p _)

    size_on : length (i.done ++ p) ≡ o + length p
    size_on = length-append i.done p ∙ ap (λ (n : ℕ). n + length p) i.size

    stored_on : {out' : List ℕ} → out' ≡ sets out o p → (t : List ℕ) → out₀ ≡ sets t 0 (mark form) → out' ≡ sets t 0 (i.done ++ p)
    stored_on w t g = w ∙ ap (λ (x : List ℕ). sets x o p) (i.stored t g) ∙ sets_append i.done p t 0 o (omega (arith, i.size))

    moved : {out' : List ℕ} → at + u ≤ length s → length p ≤ room - 1 - o → out' ≡ sets out o p → Writing form s room out₀ (at + u) (o + length p) out'
    moved h f w = record { inside = h; below = omega (arith, i.below); done = i.done ++ p; size = size_on; same = parts; stored = stored_on w }

    stuck : {out' : List ℕ} (t : List ℕ) → out₀ ≡ sets t 0 (mark form) → length t ≤ room → room - 1 - o < length p → out' ≡ sets out o p
        → Passed (quoted form s) room None t out'
    stuck t g l f w =
        let a : length (quoted form s) ≡ length (i.done ++ p) + length (closed form (drop (at + u) s)) = ap length parts ∙ length-append (i.done ++ p) _ in
        let d : length (closed form (drop (at + u) s)) ≡ length (write_units form 0 (drop (at + u) s)) + 1 = length-append (write_units form 0 (drop (at + u) s)) (quote (style_of form) ∷ []) in
        stopped (i.done ++ p) (closed form (drop (at + u) s)) parts (omega (arith, size_on, i.below)) l (omega (arith, size_on, i.below)) (stored_on w t g)

  -- an escape; the code has the form's style as a number of its own
  module _ {st : Style} (es : st ≡ style_of form) (e m : ℕ) (h : at < length s) (ee : e ≡ at + literal_run st 0 (drop at s)) (z : e ≡ at)
      (em : m ≡ length (escape_byte form (get_or s at 0))) {out' : List ℕ} (w : out' ≡ sets out o (escape_byte form (get_or s at 0))) where
    escape_here : write_units form 0 (drop at s) ≡ escape_byte form (get_or s at 0) ++ write_units form 0 (drop (at + 1) s)
    escape_here = escape_step form s at h (omega (arith, rw es at ee, z))

    pub escape_moved : m ≤ room - 1 - o → Writing form s room out₀ (at + 1) (o + m) out'
    escape_moved f = rw em (moved (escape_byte form (get_or s at 0)) 1 escape_here (omega arith) (rw em at f) w)

    pub escape_stuck : (t : List ℕ) → out₀ ≡ sets t 0 (mark form) → length t ≤ room → room - 1 - o < m → Passed (quoted form s) room None t out'
    escape_stuck t g l f = stuck (escape_byte form (get_or s at 0)) 1 escape_here t g l (rw em at f) w

  -- a run
  module _ {st : Style} (es : st ≡ style_of form) (e : ℕ) (h : at < length s) (ee : e ≡ at + literal_run st 0 (drop at s)) where
    abbrev run : List ℕ
    run = take (e - at) (drop at s)

    count : e - at ≡ literal_run (style_of form) 0 (drop at s)
    count = omega (arith, rw es at ee)

    pub run_inside : at + (e - at) ≤ length s
    run_inside = omega (arith, count, run_fits (style_of form) (drop at s), length-drop at s)

    run_here : write_units form 0 (drop at s) ≡ run ++ write_units form 0 (drop (at + (e - at)) s)
    run_here =
        rw (count) (write_run form (drop at s) ∙ ap (λ (x : List ℕ). take (literal_run (style_of form) 0 (drop at s)) (drop at s) ++ write_units form 0 x) (drop-drop (literal_run (style_of form) 0 (drop at s)) at s))

    run_length : length run ≡ e - at
    run_length = length-take-le (e - at) (drop at s) (omega (arith, count, run_fits (style_of form) (drop at s)))

    module _ {out' : List ℕ} (w : out' ≡ sets out o run) where
      pub run_moved : e - at ≤ room - 1 - o → Writing form s room out₀ e (o + (e - at)) out'
      run_moved f =
          let a : at + (e - at) ≡ e = omega (arith, rw es at ee) in
          rw (a, run_length) at (moved run (e - at) run_here run_inside (omega (arith, run_length)) w)

      pub run_stuck : (t : List ℕ) → out₀ ≡ sets t 0 (mark form) → length t ≤ room → room - 1 - o < e - at → Passed (quoted form s) room None t out'
      run_stuck t g l f = stuck run (e - at) run_here t g l (omega (arith, run_length)) w

  ended : length s ≤ at → quoted form s ≡ i.done ++ (quote (style_of form) ∷ [])
  unfolding write_units
  ended h = i.same ∙ rw (drop_of_length-le s h) refl

  pub last : {out' : List ℕ} (t : List ℕ) → out₀ ≡ sets t 0 (mark form) → length s ≤ at → out' ≡ set out o (quote (style_of form))
      → Passed (quoted form s) room (Some (o + 1)) t out'
  last t g h w =
      let l : length (quoted form s) ≡ o + 1 = ap length (ended h) ∙ length-append i.done (quote (style_of form) ∷ []) ∙ omega (arith, i.size) in
      finished (omega (arith, i.below)) l
      (w ∙ ap (λ (x : List ℕ). set x o (quote (style_of form))) (i.stored t g) ∙ sets_append i.done (quote (style_of form) ∷ []) t 0 o (omega (arith, i.size)) ∙ ap (sets t 0) (sym (ended h)))

-- what a call answers and leaves
abbrev WroteIt : List ℕ → List ℕ → Result ℕ Refusal → List ℕ → Type 0
WroteIt text out r new = (r ≡ written_in (length out) text) × (new ≡ wrote_into text out)

pub full : (text out : List ℕ) → length out < length text → WroteIt text out (Err no_room) out
unfolding written_in wrote_into pick
full text out h = simp (lt-leb (length text) (length out) h) (refl, refl)

pub wrote : (text out : List ℕ) (n : ℕ) (new : List ℕ) → length text ≤ length out → n ≡ length text → new ≡ sets out 0 text → WroteIt text out (Ok n) new
unfolding written_in wrote_into pick
wrote text out n new h e w = simp (le-leb (length text) (length out) h) (ap Ok e, w ∙ sets_over text out h)

-- one pass, where the text is known to fit
pub one_pass : (text out : List ℕ) {n : Option ℕ} {new : List ℕ} {r : Result ℕ Refusal} → length text ≤ length out → Passed text (length out) n out new
    → r ≡ ok_or n no_room → WroteIt text out r new
unfolding pick
one_pass text out {n} {new} h p e =
    let q : n ≡ Some (length text) = p.answer ∙ rw (le-leb (length text) (length out) h) in
    rw (e, q) (wrote text out (length text) new h refl (stored_whole p h))

-- room for the longest text of n bytes
pub room_enough : (form to : Form) (n room : ℕ) → form ≡ to → length (mark to) + limit to n + 1 ≤ room → (s : List ℕ) → length s ≡ n → length (quoted form s) ≤ room
room_enough form to n room e h s l =
    rw e (omega (arith, quoted_length to s, ap (limit to) l))

-- the first pass over the empty part `l`, and the second over the buffer
module _ (text l out : List ℕ) {n : Option ℕ} {l₀ : List ℕ} (z : length l ≡ 0) (p : Passed text (length out) n l₀ l) where
  -- what the first answers
  told : {r : Result ℕ Refusal} → r ≡ ok_or n no_room → r ≡ written_in (length out) text
  unfolding pick written_in
  told e = split (leb (length text) (length out))
      (λ f. let q : n ≡ Some (length text) = p.answer ∙ rw f in rw (e, q, f))
      (λ f. let q : n ≡ None = p.answer ∙ rw f in rw (e, q, f))

  pub too_long_lem : (refusal : Refusal) → Err refusal ≡ ok_or n no_room → WroteIt text out (Err refusal) (l ++ out)
  unfolding pick wrote_into
  too_long_lem refusal e = (
    told e,
    empty_front l out z ∙ split (leb (length text) (length out))
        (λ f. let a : n ≡ Some (length text) = p.answer ∙ rw f in
        let q : Err refusal ≡ Ok (length text) = e ∙ ap (λ (m : Option ℕ). ok_or m no_room) a in never (cc))
        (λ f. rw f),
  )

  pub both_passes : (k : ℕ) {n2 : Option ℕ} {new : List ℕ} → Ok k ≡ ok_or n no_room → Passed text (length out) n2 (l ++ out) new → WroteIt text out (Ok k) new
  unfolding pick wrote_into
  both_passes k {n2} {new} e q = (
    told e,
    split (leb (length text) (length out))
        (λ f. let g : length text ≤ length out = leb-true _ _ f in
        stored_whole q g ∙ ap (λ (x : List ℕ). sets x 0 text) (empty_front l out z) ∙ sets_over text out g ∙ rw f)
        (λ f. let a : n ≡ None = p.answer ∙ rw f in
        let r : Ok k ≡ Err no_room = e ∙ ap (λ (m : Option ℕ). ok_or m no_room) a in never (cc)),
  )

pub stored_mark : (form to : Form) (out new : List ℕ) → form ≡ to → new ≡ sets out 0 (mark to) → (length (mark to) ≡ length (mark form)) × (new ≡ sets out 0 (mark form))
stored_mark form to out new e w = rw e (refl, w)

-- valid data takes the `""` form
pub valid_text : (s : List ℕ) → valid_utf8 s ≡ true → write_string s ≡ quoted AsJson s
unfolding write_string pick
valid_text s e = rw e

-- data that is one run of literal characters
pub literal_text : (s : List ℕ) → literal_run Json 0 s ≡ length s → quoted AsJson s ≡ double_quote ∷ (s ++ (double_quote ∷ []))
unfolding quoted write_units
literal_text s e =
    let u : write_units AsJson 0 s ≡ s =
    write_run AsJson s ∙ rw (e, drop_of_length-le s {i = length s} (omega arith), take-length s) (append-nil s) in
    rw u

module _ (s out : List ℕ) (e : literal_run Json 0 s ≡ length s) where
  text_length : length (quoted AsJson s) ≡ length s + 2
  text_length = ap length (literal_text s e) ∙ (let l : length (s ++ (double_quote ∷ [])) ≡ length s + 1 = length-append s (double_quote ∷ []) in omega arith)

  -- what the stores of a quote, the data and a quote leave
  literal_stored : {o1 o2 o3 : List ℕ} → o1 ≡ set out 0 double_quote → o2 ≡ sets o1 1 (take (length s) s) → o3 ≡ set o2 (length s + 1) double_quote → o3 ≡ sets out 0 (quoted AsJson s)
  literal_stored {o1} {o2} {o3} p q r =
      r ∙ ap (λ (x : List ℕ). set x (length s + 1) double_quote) (q ∙ (λ i. sets (p i) 1 (take-length s i)))
      ∙ sets_append s (double_quote ∷ []) (set out 0 double_quote) 1 (length s + 1) (omega arith) ∙ ap (sets out 0) (sym (literal_text s e))

  pub literal_full : length out < length s + 2 → WroteIt (quoted AsJson s) out (Err no_room) out
  literal_full h = full (quoted AsJson s) out (omega (arith, text_length))

  pub literal_wrote : {o1 o2 o3 : List ℕ} → length s + 2 ≤ length out → o1 ≡ set out 0 double_quote → o2 ≡ sets o1 1 (take (length s) s) → o3 ≡ set o2 (length s + 1) double_quote
      → WroteIt (quoted AsJson s) out (Ok (length s + 2)) o3
  literal_wrote {o1} {o2} {o3} h p q r = wrote (quoted AsJson s) out (length s + 2) o3 (omega (arith, text_length)) (sym text_length) (literal_stored p q r)

  -- the same as one pass, in a room
  string_text_lem : write_string s ≡ double_quote ∷ (s ++ (double_quote ∷ []))
  string_text_lem = valid_text s (all_literal Json s e) ∙ literal_text s e

  pub front_none : {room : ℕ} → room ≡ 0 → out ≡ sets out 0 (take room (write_string s))
  front_none z = rw z

  pub front_stored : {room : ℕ} {o1 o2 : List ℕ} → (room ≡ 0 → ⊥) → room < length s + 2 → o1 ≡ set out 0 double_quote → o2 ≡ sets o1 1 (take (room - 1) s)
      → o2 ≡ sets out 0 (take room (write_string s))
  front_stored {room} {o1} {o2} nz h p q =
      let n : room ≡ suc (room - 1) = omega arith in
      let t : take room (write_string s) ≡ double_quote ∷ take (room - 1) s =
      (λ i. take (n i) (string_text_lem i)) ∙ ap (λ (l : List ℕ). double_quote ∷ l) (take-append-le (room - 1) s (double_quote ∷ []) (omega arith)) in
      q ∙ ap (λ (l : List ℕ). sets l 1 (take (room - 1) s)) p ∙ ap (sets out 0) (sym t)

  pub literal_over : {room : ℕ} {new : List ℕ} → room < length s + 2 → new ≡ sets out 0 (take room (write_string s)) → Passed (write_string s) room None out new
  unfolding pick
  literal_over {room} h w =
      let l : length (write_string s) ≡ length s + 2 = ap length (valid_text s (all_literal Json s e)) ∙ text_length in
      record { answer = rw (lt-leb (length (write_string s)) room (omega arith)); stored = w }

  pub literal_part : {room : ℕ} {o1 o2 o3 : List ℕ} → length s + 2 ≤ room → o1 ≡ set out 0 double_quote → o2 ≡ sets o1 1 (take (length s) s) → o3 ≡ set o2 (length s + 1) double_quote
      → Passed (write_string s) room (Some (length s + 2)) out o3
  literal_part h p q r = rw (valid_text s (all_literal Json s e)) (finished (omega (arith, text_length)) text_length (literal_stored p q r))

-- the form that the data takes
pub other_text : (s : List ℕ) → valid_utf8 s ≡ false → write_string s ≡ quoted AsBytes s
unfolding write_string pick
other_text s e = rw e

module _ (s : List ℕ) (r : Result ℕ Refusal) (out new : List ℕ) where
  pub valid_form : valid_utf8 s ≡ true → WroteIt (quoted AsJson s) out r new → WroteIt (write_string s) out r new
  valid_form e w = subst (λ (x : List ℕ). WroteIt x out r new) (sym (valid_text s e)) w

  pub other_form : valid_utf8 s ≡ false → WroteIt (quoted AsBytes s) out r new → WroteIt (write_string s) out r new
  other_form e w = subst (λ (x : List ℕ). WroteIt x out r new) (sym (other_text s e)) w

pub valid_pass : (s : List ℕ) (room : ℕ) {v : Bool} {r : Option ℕ} {out new : List ℕ} → v ≡ valid_utf8 s → v ≡ true → Passed (quoted AsJson s) room r out new
    → Passed (write_string s) room r out new
valid_pass s room {v} {r} {out} {new} e h w = subst (λ (x : List ℕ). Passed x room r out new) (sym (valid_text s (sym e ∙ h))) w

pub other_pass : (s : List ℕ) (room : ℕ) {v : Bool} {r : Option ℕ} {out new : List ℕ} → v ≡ valid_utf8 s → v ≡ false → Passed (quoted AsBytes s) room r out new
    → Passed (write_string s) room r out new
other_pass s room {v} {r} {out} {new} e h w = subst (λ (x : List ℕ). Passed x room r out new) (sym (other_text s (sym e ∙ h))) w

-- whether data is valid UTF-8, by what stands behind its first run of literal characters
pub valid_behind : (s : List ℕ) (at e : ℕ) (r : Bool) → Running Json s 0 at → e ≡ at + literal_run Json 0 (drop at s)
    → r ≡ valid_utf8 (take (length s - e) (drop e s)) → r ≡ valid_utf8 s
valid_behind s at e r k h v =
    let n : e ≡ literal_run Json 0 s = omega (arith, k.same) in
    let w : take (length s - e) (drop e s) ≡ drop e s = rw (← length-drop e s) (take-length (drop e s)) in
    v ∙ ap valid_utf8 (w ∙ ap (λ (i : ℕ). drop i s) n) ∙ sym (run_valid Json s)

-- the data lent as a part that is all of it
pub all_of_it : (s : List ℕ) (at : ℕ) → Running Json (take (length s) s) 0 at → Running Json s 0 at
all_of_it s at r = subst (λ (l : List ℕ). Running Json l 0 at) (take-length s) r

pub one_run : (s : List ℕ) (at : ℕ) → Running Json (take (length s) s) 0 at → at ≡ length s → literal_run Json 0 s ≡ length s
one_run s at r e = omega (arith, at_end_lem Json s 0 at (all_of_it s at r) (omega arith))
