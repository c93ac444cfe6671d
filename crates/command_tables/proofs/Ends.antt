-- How a run ends, by what the reader and the writer say.
-- Assumes nothing.
use Prim.Native.Nat.{ℕ, ◌/◌, ◌≤◌, ◌<◌}
use mathlib.Core.Bool.{Bool, true, false}
use mathlib.Core.List.{List}
use mathlib.Core.Path.{◌≡◌, refl, sym, ap, subst, ◌∙◌}
use native.Mathlib.Omega.{arith}
use lib.ListN.{length}
use Rattle.std.specs.Prelude.{Result, Ok, Err}
use Rattle.prelude.proofs.Cases.{never}
use Rattle.prelude.specs.Limits.{text_max}
use Rattle.prelude.specs.declared.refusals.Refusal.{Refusal}
use Rattle.prelude.specs.declared.refusals.Refused.{Refused}
use Rattle.prelude.specs.Refusals.{number_of}
use Rattle.json8.specs.Nodes.{Read, got, refused}
use Rattle.json8.specs.Read.{read_of, parsed_of, table_after, store_after}
use Rattle.trees.specs.Tables.{nodes_in, tree_of}
use Rattle.json8_write.specs.Write.{wrote_tree}
use Rattle.json8.specs.declared.answers.Parsed.{Parsed}
use Rattle.command_outputs.specs.declared.outcomes.Outcome.{Outcome}
use Rattle.command_outputs.specs.declared.outcomes.Outcome.TheVariants.{Long}
use Rattle.command_outputs.specs.Outcomes.{refused_at, is_printed}
use Rattle.command_tables.specs.Runs.{ByRead, ByWritten, Listed, Rewritten}

pub written_long : (n : ℕ) → text_max < n → (text_max < n → Long n ≡ Long n) × (n ≤ text_max → is_printed (Long n) ≡ true)
written_long n h = (λ q. refl, λ q. absurd (omega (arith, h, q)))

pub written_short : (n : ℕ) (o : Outcome) → n ≤ text_max → is_printed o ≡ true → (text_max < n → o ≡ Long n) × (n ≤ text_max → is_printed o ≡ true)
written_short n o h e = (λ q. absurd (omega (arith, h, q)), λ q. e)

-- what the writer says
pub by_written : (text : List ℕ) (v w : Result ℕ Refusal) (o : Outcome) → w ≡ v → ByWritten text w o → ByWritten text v o
by_written text v w o e b = subst (λ (x : Result ℕ Refusal). ByWritten text x o) e b

-- what the reader says
abbrev is_done : Result Parsed Refused → Bool
is_done (Ok x) = true
is_done (Err f) = false

abbrev fault_in : Refused → Result Parsed Refused → Refused
fault_in d (Ok x) = d
fault_in d (Err f) = f

-- what is answered for a refusal
abbrev pub refused_by : List ℕ → Refused → Outcome
refused_by text f = refused_at text (number_of f.refusal) f.place

module _ (text : List ℕ) (Accepted : Outcome → Type 0) where
  pub by_refusal : (r : Read) (p : Result Parsed Refused) (f : Refused) (o : Outcome) → p ≡ parsed_of r → p ≡ Err f → o ≡ refused_by text f → ByRead text r Accepted o
  by_refusal (got l tag ns bs) p f o a e g = never (let z : true ≡ false = ap is_done (sym a ∙ e) in cc)
  by_refusal (refused m q) p f o a e g = g ∙ ap (λ (x : Result Parsed Refused). refused_by text (fault_in f x)) (sym e ∙ a)

  pub by_nodes : (r : Read) (p : Result Parsed Refused) (x : Parsed) (o : Outcome) → p ≡ parsed_of r → p ≡ Ok x → Accepted o → ByRead text r Accepted o
  by_nodes (got l tag ns bs) p x o a e b = b
  by_nodes (refused m q) p x o a e b = never (let z : false ≡ true = ap is_done (sym a ∙ e) in cc)

module _ (text table store : List ℕ) {p : Result Parsed Refused} (a : p ≡ parsed_of (read_of (length table / 4) (length store) text)) where
  pub listed : (x : Parsed) (o : Outcome) → p ≡ Ok x → is_printed o ≡ true → Listed text table store o
  listed x o e b = by_nodes text (λ (y : Outcome). is_printed y ≡ true) (read_of (length table / 4) (length store) text) p x o a e b

  pub unlisted : (f : Refused) (o : Outcome) → p ≡ Err f → o ≡ refused_by text f → Listed text table store o
  unlisted f o e g = by_refusal text (λ (y : Outcome). is_printed y ≡ true) (read_of (length table / 4) (length store) text) p f o a e g

  module _ (room : ℕ) where
    abbrev Formed : Outcome → Type 0
    Formed =
        ByWritten text
        (wrote_tree room
        (tree_of (nodes_in (table_after (read_of (length table / 4) (length store) text) table)) text (store_after (read_of (length table / 4) (length store) text) store)))

    pub rewritten : (x : Parsed) (o : Outcome) (new kept : List ℕ) → p ≡ Ok x
        → new ≡ table_after (read_of (length table / 4) (length store) text) table → kept ≡ store_after (read_of (length table / 4) (length store) text) store
        → ByWritten text (wrote_tree room (tree_of (nodes_in new) text kept)) o → Rewritten text table store room o
    rewritten x o new kept e f g b =
        by_nodes text Formed (read_of (length table / 4) (length store) text) p x o a e
        (subst (λ (t : List ℕ). ByWritten text (wrote_tree room (tree_of (nodes_in t) text (store_after (read_of (length table / 4) (length store) text) store))) o) f
        (subst (λ (t : List ℕ). ByWritten text (wrote_tree room (tree_of (nodes_in new) text t)) o) g b))

    pub unwritten_form : (f : Refused) (o : Outcome) → p ≡ Err f → o ≡ refused_by text f → Rewritten text table store room o
    unwritten_form f o e g = by_refusal text Formed (read_of (length table / 4) (length store) text) p f o a e g
