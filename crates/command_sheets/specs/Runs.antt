-- How a run on a TSV8 log ends and what it prints: all but what the system says of printing.
-- Assumes nothing.
use Rattle.std.specs.Prelude.{ℕ, ◌/◌, Bool, List, ◌≡◌, length}
use Rattle.prelude.specs.Limits.{column_max}
use Rattle.prelude.specs.Refusals.{number_of}
use Rattle.tsv8.specs.Read.{SheetRead, read, unread}
use Rattle.tsv8.specs.Answers.{read_text}
use Rattle.command_outputs.specs.declared.outcomes.Outcome.{Outcome}
use Rattle.command_outputs.specs.Outcomes.{refused_at}
use Rattle.command_outputs.specs.Pages.{AllPrinted}
use Rattle.command_sheets.specs.Lines.{line_at}

-- what a text is read to, with its cells in a table: every log's names and types find room
abbrev pub log_of : List ℕ → List ℕ → List ℕ → SheetRead
log_of table store text = read_text (record { names = column_max; types = column_max; cells = length table / 3; store = length store }) text

-- an accepted log is printed, a line for each cell; nothing is printed of a log that is refused
abbrev pub Listed : List ℕ → SheetRead → Bool → List ℕ → List ℕ → Outcome → List ℕ → List ℕ → Type 0
Listed text (read ns ts cs bs) terminal page shown o page' shown' =
    AllPrinted (line_at text ns cs bs) (length cs) terminal page shown o page' shown'
Listed text (unread refusal place) terminal page shown o page' shown' =
    (o ≡ refused_at text (number_of refusal) place) × (page' ≡ page) × (shown' ≡ shown)
