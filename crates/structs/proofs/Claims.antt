-- The claims of specs/Claims.antt: a struct's fields tell the cases apart, and each case has its own fields.
-- Assumes nothing.
use Rattle.std.specs.Prelude.{Option, Some, None, Result, Ok, Err}
use Prim.Native.Nat.{ℕ}
use mathlib.Core.Bool.{Bool, true, false}
use mathlib.Core.Path.{◌≡◌, refl, sym, ap, ◌∙◌}
use native.Mathlib.Omega.{arith}
use lib.Dec.{eqb}
use Rattle.prelude.specs.Pick.{pick}
use Rattle.prelude.proofs.Cases.{split}
use Rattle.prelude.specs.declared.refusals.Refusal.{Refusal}
use Rattle.prelude.specs.declared.refusals.Refused.{Refused}
use Rattle.prelude.specs.Refusals.{number_of}
use Rattle.prelude.proofs.Numbers.{number_positive, number_injective}
use Rattle.json8.specs.declared.answers.Parsed.{Parsed}
use Rattle.json8_show.specs.declared.show.Shown.{Shown}
use Rattle.json8_show.specs.declared.show.Shown.TheVariants.{InText, InStore}
use Rattle.tsv8.specs.declared.answers.Sheet.{Sheet}
use Rattle.structs.specs.declared.results.J8Result.{J8Result}
use Rattle.structs.specs.declared.sheets.J8Sheet.{J8Sheet}
use Rattle.structs.specs.declared.tables.J8Nodes.{J8Nodes}
use Rattle.structs.specs.declared.tables.J8Shown.{J8Shown}
use Rattle.structs.specs.declared.uploads.J8Fed.{J8Fed}
use Rattle.structs.specs.Results.{decoded_result, written_result}
use Rattle.structs.specs.Uploads.{is_ended, ended_number, state_with, state_of, upload_with, upload_of}
use Rattle.structs.specs.Tables.{nodes_result, shown_result}
use Rattle.structs.specs.Sheets.{sheet_result}
use Rattle.structs.specs.Claims.{StatesReturn, StructsReturn, FedTellsAll, ResultsTellAll}

-- whether an upload is ended, there and back
over_back : (b : Bool) → is_ended (ended_number b) ≡ b
unfolding is_ended ended_number pick
over_back true = refl
over_back false = refl

number_back : (n : ℕ) → ended_number (is_ended n) ≡ pick (eqb n 0) 0 1
unfolding is_ended ended_number pick
number_back n = split (eqb n 0) (λ e. rw e) (λ e. rw e)

pub states_return : StatesReturn
states_return s = ap (state_with (upload_of s)) (over_back s.ended)

pub structs_return : StructsReturn
structs_return u = ap (upload_with (state_of u)) (number_back u.ended)

pub fed_tells_all : FedTellsAll
fed_tells_all f g e =
    let s : f.state ≡ g.state =
    sym (states_return f.state) ∙ ap (λ (r : J8Fed). state_of r.upload) e ∙ states_return g.state in
    let n : f.answer.number ≡ g.answer.number = ap (λ (r : J8Fed). r.answer.number) e in
    let l : f.answer.line ≡ g.answer.line = ap (λ (r : J8Fed). r.answer.line) e in
    let p : f.answer.place ≡ g.answer.place = ap (λ (r : J8Fed). r.answer.place) e in
    λ i. record { state = s i; answer = record { number = n i; line = l i; place = p i } }

-- no refusal has the number 0, and one number is of one refusal
none_zero : (r : Refusal) → number_of r ≡ 0 → ⊥
none_zero r e = omega (arith, number_positive r)

refused_tells : (f g : Refused) → number_of f.refusal ≡ number_of g.refusal → f.place ≡ g.place → f ≡ g
refused_tells f g p q =
    let a : f.refusal ≡ g.refusal = number_injective f.refusal g.refusal p in λ i. record { refusal = a i; place = q i }

-- strings
decoded_tells : (v w : Result ℕ Refused) → decoded_result v ≡ decoded_result w → v ≡ w
decoded_tells (Ok n) (Ok m) p = ap Ok (ap (λ (r : J8Result). r.length) p)
decoded_tells (Ok n) (Err g) p = absurd (none_zero g.refusal (sym (ap (λ (r : J8Result). r.number) p)))
decoded_tells (Err f) (Ok m) p = absurd (none_zero f.refusal (ap (λ (r : J8Result). r.number) p))
decoded_tells (Err f) (Err g) p = ap Err (refused_tells f g (ap (λ (r : J8Result). r.number) p) (ap (λ (r : J8Result). r.place) p))

written_tells : (v w : Result ℕ Refusal) → written_result v ≡ written_result w → v ≡ w
written_tells (Ok n) (Ok m) p = ap Ok (ap (λ (r : J8Result). r.length) p)
written_tells (Ok n) (Err q) p = absurd (none_zero q (sym (ap (λ (r : J8Result). r.number) p)))
written_tells (Err q) (Ok m) p = absurd (none_zero q (ap (λ (r : J8Result). r.number) p))
written_tells (Err q) (Err r) p = ap Err (number_injective q r (ap (λ (r : J8Result). r.number) p))

-- tables
nodes_tells : (v w : Result Parsed Refused) → nodes_result v ≡ nodes_result w → v ≡ w
nodes_tells (Ok v) (Ok w) p =
    let a : v.nodes ≡ w.nodes = ap (λ (r : J8Nodes). r.nodes) p in
    let b : v.stored ≡ w.stored = ap (λ (r : J8Nodes). r.stored) p in λ i. Ok (record { nodes = a i; stored = b i })
nodes_tells (Ok v) (Err g) p = absurd (none_zero g.refusal (sym (ap (λ (r : J8Nodes). r.number) p)))
nodes_tells (Err f) (Ok w) p = absurd (none_zero f.refusal (ap (λ (r : J8Nodes). r.number) p))
nodes_tells (Err f) (Err g) p = ap Err (refused_tells f g (ap (λ (r : J8Nodes). r.number) p) (ap (λ (r : J8Nodes). r.place) p))

shown_tells : (v w : Option Shown) → shown_result v ≡ shown_result w → v ≡ w
shown_tells (Some (InText a b)) (Some (InText c d)) p =
    let x : a ≡ c = ap (λ (r : J8Shown). r.place) p in let y : b ≡ d = ap (λ (r : J8Shown). r.length) p in λ i. Some (InText (x i) (y i))
shown_tells (Some (InStore a b)) (Some (InStore c d)) p =
    let x : a ≡ c = ap (λ (r : J8Shown). r.place) p in let y : b ≡ d = ap (λ (r : J8Shown). r.length) p in λ i. Some (InStore (x i) (y i))
shown_tells None None p = refl
shown_tells (Some (InText a b)) (Some (InStore c d)) p = let z : ◌≡◌ {A = ℕ} 0 1 = ap (λ (r : J8Shown). r.stored) p in absurd (omega arith)
shown_tells (Some (InStore a b)) (Some (InText c d)) p = let z : ◌≡◌ {A = ℕ} 1 0 = ap (λ (r : J8Shown). r.stored) p in absurd (omega arith)
shown_tells (Some (InText a b)) None p = let z : ◌≡◌ {A = ℕ} 0 1 = ap (λ (r : J8Shown). r.number) p in absurd (omega arith)
shown_tells (Some (InStore a b)) None p = let z : ◌≡◌ {A = ℕ} 0 1 = ap (λ (r : J8Shown). r.number) p in absurd (omega arith)
shown_tells None (Some (InText a b)) p = let z : ◌≡◌ {A = ℕ} 1 0 = ap (λ (r : J8Shown). r.number) p in absurd (omega arith)
shown_tells None (Some (InStore a b)) p = let z : ◌≡◌ {A = ℕ} 1 0 = ap (λ (r : J8Shown). r.number) p in absurd (omega arith)

-- sheets
sheet_tells : (v w : Result Sheet Refused) → sheet_result v ≡ sheet_result w → v ≡ w
sheet_tells (Ok v) (Ok w) p =
    let a : v.columns ≡ w.columns = ap (λ (r : J8Sheet). r.columns) p in
    let b : v.cells ≡ w.cells = ap (λ (r : J8Sheet). r.cells) p in
    let c : v.stored ≡ w.stored = ap (λ (r : J8Sheet). r.stored) p in λ i. Ok (record { columns = a i; cells = b i; stored = c i })
sheet_tells (Ok v) (Err g) p = absurd (none_zero g.refusal (sym (ap (λ (r : J8Sheet). r.number) p)))
sheet_tells (Err f) (Ok w) p = absurd (none_zero f.refusal (ap (λ (r : J8Sheet). r.number) p))
sheet_tells (Err f) (Err g) p = ap Err (refused_tells f g (ap (λ (r : J8Sheet). r.number) p) (ap (λ (r : J8Sheet). r.place) p))

pub results_tell_all : ResultsTellAll
results_tell_all = (decoded_tells, written_tells, nodes_tells, shown_tells, sheet_tells)
