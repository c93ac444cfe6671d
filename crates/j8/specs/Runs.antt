-- What each C function returns and leaves: the contracts say that it does, and the claims of j8_claims are about the same.
-- Assumes nothing.
use Rattle.std.specs.Prelude.{ℕ, ◌+◌, ◌*◌, ◌/◌, List, length}
use Rattle.strings.specs.Read.{read_text, read_into, decoded_of}
use Rattle.strings_write.specs.Write.{write_string, written_in, wrote_into}
use Rattle.sentences.specs.Sentences.{sentence}
use Rattle.json8.specs.Read.{read_of, parsed_of, table_after, store_after}
use Rattle.json8_show.specs.Show.{shown_at}
use Rattle.tsv8.specs.Read.{SheetRead}
use Rattle.tsv8.specs.Answers as tsv8
use Rattle.trees.specs.Tables.{nodes_in, tree_of}
use Rattle.json8_write.specs.Write.{wrote_tree, tree_into}
use Rattle.lines_write.specs.Write.{wrote_lines, lines_into}
use Rattle.upload.specs.Calls.{fresh, Called, feed, finish}
use Rattle.structs.specs.declared.results.J8Result.{J8Result}
use Rattle.structs.specs.declared.sheets.J8Sheet.{J8Sheet}
use Rattle.structs.specs.declared.tables.J8Nodes.{J8Nodes}
use Rattle.structs.specs.declared.tables.J8Shown.{J8Shown}
use Rattle.structs.specs.declared.uploads.J8Upload.{J8Upload}
use Rattle.structs.specs.declared.uploads.J8Fed.{J8Fed}
use Rattle.structs.specs.Results.{decoded_result, written_result}
use Rattle.structs.specs.Sheets.{sheet_result}
use Rattle.structs.specs.Tables.{nodes_result, shown_result}
use Rattle.structs.specs.Uploads.{upload_of, given, fed_of}

-- `j8_version()`: "major times 1,000,000, minor times 1,000, patch", of 0.3.0
abbrev pub version_of : ℕ → ℕ → ℕ → ℕ
version_of major minor patch = major * 1000000 + (minor * 1000 + patch)

abbrev pub version : ℕ
version = version_of 0 3 0

-- a result, and the output
pub record Ran : Type 0 where
  pub result : J8Result
  pub out : List ℕ

-- `j8_string_write(data, out)`
abbrev pub string_write : List ℕ → List ℕ → Ran
string_write bytes out = record { result = written_result (written_in (length out) (write_string bytes)); out = wrote_into (write_string bytes) out }

-- `j8_string_read(text, out)`
abbrev pub string_read : List ℕ → List ℕ → Ran
string_read text out = record { result = decoded_result (decoded_of (read_text (length out) text)); out = read_into (read_text (length out) text) out }

-- `j8_lines_write(records, out)`
abbrev pub lines_write : List ℕ → List ℕ → Ran
lines_write records out = record { result = written_result (wrote_lines (length out) records); out = lines_into records out }

-- `j8_sentence(number, out)`
abbrev pub sentence_write : ℕ → List ℕ → Ran
sentence_write number out = record { result = written_result (written_in (length out) (sentence number)); out = wrote_into (sentence number) out }

-- `j8_json8_write(table, text, store, out)`
abbrev pub json8_write : List ℕ → List ℕ → List ℕ → List ℕ → Ran
json8_write table text store out =
    record {
      result = written_result (wrote_tree (length out) (tree_of (nodes_in table) text store));
      out = tree_into (tree_of (nodes_in table) text store) out;
    }

-- `j8_json8_read(text, table, store)`
pub record RanNodes : Type 0 where
  pub result : J8Nodes
  pub table : List ℕ
  pub store : List ℕ

abbrev pub json8_read : List ℕ → List ℕ → List ℕ → RanNodes
json8_read text table store =
    record {
      result = nodes_result (parsed_of (read_of (length table / 4) (length store) text));
      table = table_after (read_of (length table / 4) (length store) text) table;
      store = store_after (read_of (length table / 4) (length store) text) store;
    }

-- `j8_tsv8_read(text, names, types, cells, store)`
pub record RanSheet : Type 0 where
  pub result : J8Sheet
  pub names : List ℕ
  pub types : List ℕ
  pub cells : List ℕ
  pub store : List ℕ

abbrev ran_sheet : SheetRead → List ℕ → List ℕ → List ℕ → List ℕ → RanSheet
ran_sheet r names types cells store =
    record {
      result = sheet_result (tsv8.sheet_of r);
      names = tsv8.names_after r names;
      types = tsv8.types_after r types;
      cells = tsv8.cells_after r cells;
      store = tsv8.store_after r store;
    }

abbrev pub tsv8_read : List ℕ → List ℕ → List ℕ → List ℕ → List ℕ → RanSheet
tsv8_read text names types cells store = ran_sheet (tsv8.read_text (tsv8.rooms_of names types cells store) text) names types cells store

-- what a call of an upload returns, and both buffers as it leaves them
pub record RanCall : Type 0 where
  pub fed : J8Fed
  pub line : List ℕ
  pub out : List ℕ

abbrev pub ran_call : Called → RanCall
ran_call r = record { fed = fed_of r; line = r.lent.line; out = r.lent.out }

-- `j8_upload_fresh()`
abbrev pub upload_fresh : J8Upload
upload_fresh = upload_of fresh

-- `j8_upload_feed(upload, piece, line, out)`
abbrev pub upload_feed : J8Upload → List ℕ → List ℕ → List ℕ → RanCall
upload_feed u piece line out = ran_call (feed (given u line out) piece)

-- `j8_upload_finish(upload, line, out)`
abbrev pub upload_finish : J8Upload → List ℕ → List ℕ → RanCall
upload_finish u line out = ran_call (finish (given u line out))

-- `j8_json8_show(table, text, store, node)`
abbrev pub json8_show : List ℕ → List ℕ → List ℕ → ℕ → J8Shown
json8_show table text store node = shown_result (shown_at table (length text) (length store) node)
