-- What is claimed of the C functions: each claim is a type, and proofs/Claims.antt has a term of it.
-- Assumes nothing.
use Rattle.std.specs.Prelude.{ℕ, ◌*◌, ◌/◌, ◌≤◌, true, false, List, [], ◌++◌, map, ◌⊎◌, ◌≡◌, length, take, drop}
use Rattle.prelude.specs.Bytes.{IsBytes}
use Rattle.prelude.specs.Limits.{text_max, line_max, upload_max, column_max}
use Rattle.prelude.specs.Refusals.{no_room, number_of}
use Rattle.utf8.specs.Utf8.{valid_utf8}
use Rattle.notation.specs.declared.styles.Style.TheVariants.{Unicode}
use Rattle.notation.specs.Marks.{opens, opening}
use Rattle.strings_write.specs.Write.{write_string}
use Rattle.sentences.specs.Sentences.{sentence}
use Rattle.sentences.specs.Claims.{IsRefusal, sentence_room}
use Rattle.trees.specs.Trees.{Tree, render}
use Rattle.trees.specs.Tables.{just, nodes_in, tree_of}
use Rattle.trees.specs.Sizes.{size_of, store_of}
use Rattle.lines_write.specs.Write.{right_records, write_quoted}
use Rattle.j8_lines.specs.Lists.{Call, joined, finished, defined}
use Rattle.j8_lines.specs.Lines.{cut}
use Rattle.string_claims.specs.Claims.{Numbered as StringNumbered}
use Rattle.json8.specs.Claims.{Numbered as TableNumbered}
use Rattle.upload_claims.specs.Claims.{NumberOf, Answered, defined_answers, Finished, first_refusal, EndedWith, Within}
use Rattle.structs.specs.Results.{done, refusal}
use Rattle.structs.specs.Uploads.{answer_of, given}
use Rattle.tsv8_cells.specs.Parts.{lines_of}
use Rattle.tsv8_cells.specs.declared.columns.ColumnType.{ColumnType}
use Rattle.tsv8_cells.specs.declared.columns.ColumnType.TheVariants.{Str as strs}
use Rattle.tsv8_cells.specs.Cells.{Cell}
use Rattle.tsv8_claims.specs.Claims.{Each, InRange, KindFits, TextFits, Table, OneForOne, Shows, name_parts, data_parts}
use Rattle.j8.specs.Runs.{Ran, string_write, string_read, lines_write, sentence_write, json8_write, RanNodes, json8_read, RanSheet, tsv8_read, RanCall, ran_call}
use Rattle.j8_claims.specs.Lists.{run_c, began_c, answers_c}
use Rattle.j8_claims.specs.Faults.{Every, PassedUp, faults, Ordered, ordered_strings, ordered_tables, ordered_sheets}
use Rattle.j8_claims.specs.Sheets.{read_names, read_cells, read_store, Typed, TextHolds, SheetFits, SheetDone, SheetRefused, names_room, types_room, cells_room, text_cells_room, store_room}

-- Demand 3, of `j8_upload_feed` and `j8_upload_finish`: "Take any list of feeds and finishes of one J8 Lines upload, in any order, empty
-- pieces and refused calls included. .. After every such list, the state and both buffers are exactly what the J8 Lines definition gives for
-- the joined text, finished or not, and each call's answer is what it gives for the calls up to and with that one."
abbrev pub EveryListOfCCalls : Type 0
EveryListOfCCalls =
    (cs : List Call) (line out : List ℕ) → line_max ≤ length line
    → (run_c (began_c line out) cs ≡ ran_call (defined cs line out))
    × (answers_c (began_c line out) cs ≡ map answer_of (defined_answers [] cs line out))

-- "lists of one or more feeds and no finish, alike in the joined text and in the buffers first lent, end in the same state, buffers and last
-- answer, whatever the pieces"
abbrev pub CPiecesDoNotMatter : Type 0
CPiecesDoNotMatter =
    (cs ds : List Call) (line out : List ℕ) → line_max ≤ length line → finished cs ≡ false → finished ds ≡ false
    → joined cs ≡ joined ds → run_c (began_c line out) cs ≡ run_c (began_c line out) ds

-- "After a finish the output holds all the text's records, or those before the first refusal, which the state then holds."
abbrev pub CRecordsAfterFinish : Type 0
CRecordsAfterFinish =
    (cs : List Call) (line out : List ℕ) → line_max ≤ length line → finished cs ≡ true
    → Finished (first_refusal (length out) (joined cs)) (joined cs) out
    (given (run_c (began_c line out) cs).fed.upload (run_c (began_c line out) cs).line (run_c (began_c line out) cs).out)

-- a byte string that `j8_string_write` wrote in front of a buffer and `j8_string_read` read from there
pub record StringReturned (bytes : List ℕ) (written back : Ran) (into : List ℕ) : Type 0 where
  pub wrote : written.result ≡ done (length (write_string bytes))
  pub read : back.result ≡ done (length bytes)
  pub same : back.out ≡ bytes ++ drop (length bytes) into

-- Demand 2: "Every byte string that has room, and whose text stays within document 01's lengths, is written so that it reads back the same"
abbrev pub CStringsReturn : Type 0
CStringsReturn =
    (bytes out into : List ℕ) → IsBytes bytes → length (write_string bytes) ≤ length out → length (write_string bytes) ≤ text_max → length bytes ≤ length into
    → StringReturned bytes (string_write bytes out) (string_read (take (string_write bytes out).result.length (string_write bytes out).out) into) into

-- "an accepted u'' string always gives valid UTF-8": what `j8_string_read` leaves in front of a buffer
abbrev pub CUnicodeIsUtf8 : Type 0
CUnicodeIsUtf8 =
    (text out : List ℕ) (n : ℕ) → opening text ≡ opens Unicode n → (string_read text out).result.number ≡ 0
    → valid_utf8 (take (string_read text out).result.length (string_read text out).out) ≡ true

-- records that `j8_lines_write` wrote in front of a buffer and that an upload read from there
pub record LinesReturned (records : List ℕ) (written : Ran) (last : RanCall) (out : List ℕ) : Type 0 where
  pub wrote : written.result ≡ done (length (write_quoted records))
  pub read : EndedWith records out (given last.fed.upload last.line last.out)

-- in any pieces, where each line, the text and the records stay within their limits
abbrev pub CLinesReturn : Type 0
CLinesReturn =
    (records text : List ℕ) (cs : List Call) (line out : List ℕ) → line_max ≤ length line → IsBytes records → right_records 0 records ≡ true
    → length (write_quoted records) ≤ length text
    → joined cs ≡ take (lines_write records text).result.length (lines_write records text).out → finished cs ≡ true
    → Within line_max (cut (write_quoted records)).closed → length (write_quoted records) ≤ upload_max → length records ≤ length out
    → LinesReturned records (lines_write records text) (run_c (began_c line out) cs) out

-- a table that `j8_json8_write` wrote in front of a buffer and `j8_json8_read` read from there: the same tree, with its counts
pub record TableReturned (t : Tree) (written : Ran) (back : RanNodes) : Type 0 where
  pub wrote : written.result ≡ done (length (render t))
  pub read : back.result ≡ record { number = 0; place = 0; nodes = size_of t; stored = store_of t }
  pub same : tree_of (nodes_in back.table) (render t) back.store ≡ just t

abbrev pub CTablesReturn : Type 0
CTablesReturn =
    (table text store : List ℕ) (t : Tree) (out into stored : List ℕ) → IsBytes text → IsBytes store
    → tree_of (nodes_in table) text store ≡ just t → length (render t) ≤ text_max → length (render t) ≤ length out
    → size_of t ≤ length into / 4 → store_of t ≤ length stored
    → TableReturned t (json8_write table text store out)
    (json8_read (take (json8_write table text store out).result.length (json8_write table text store out).out) into stored)

-- include/j8.h, "Each call can answer only these": 0, or what its text can be refused with; `j8_tsv8_read` by `CSheetsDoneOrRefused`
abbrev pub CStringsNumbered : Type 0
CStringsNumbered = (text out : List ℕ) → ((string_read text out).result.number ≡ 0) ⊎ NumberOf StringNumbered (string_read text out).result.number

abbrev pub CTablesNumbered : Type 0
CTablesNumbered =
    (text table store : List ℕ)
    → ((json8_read text table store).result.number ≡ 0) ⊎ NumberOf TableNumbered (json8_read text table store).result.number

-- the last call of every list that begins with `j8_upload_fresh()`, so each call
abbrev pub CCallsNumbered : Type 0
CCallsNumbered =
    (cs : List Call) (line out : List ℕ) → line_max ≤ length line → Answered (run_c (began_c line out) cs).fed.answer.number

-- request [2] in every function that reads a text
abbrev pub CExampleFaults : Type 0
CExampleFaults = (out table store names types cells : List ℕ) → Every (PassedUp out table store names types cells) faults

abbrev pub CFaultsInOrder : Type 0
CFaultsInOrder =
    (out table store names types cells : List ℕ)
    → Every (λ (e : Ordered). (string_read e.text out).result ≡ refusal e.refusal e.place) ordered_strings
    × Every (λ (e : Ordered). (json8_read e.text table store).result ≡ record { number = number_of e.refusal; place = e.place; nodes = 0; stored = 0 }) ordered_tables
    × Every
    (λ (e : Ordered). (tsv8_read e.text names types cells store).result ≡ record { number = number_of e.refusal; place = e.place; columns = 0; cells = 0; stored = 0 })
    ordered_sheets

-- J8_SENTENCE_ROOM bytes hold the sentence of every number
abbrev pub CSentencesHaveRoom : Type 0
CSentencesHaveRoom = (n : ℕ) (out : List ℕ) → sentence_room ≤ length out → (sentence_write n out).result ≡ done (length (sentence n))

-- what a call left in front of a buffer
abbrev pub told : Ran → List ℕ
told r = take r.result.length r.out

-- a refusal's sentence as `j8_sentence` tells it: for no other number it tells the same
abbrev pub CSentencesTellNumbers : Type 0
CSentencesTellNumbers =
    (m n : ℕ) (out into : List ℕ) → IsRefusal m → sentence_room ≤ length out → sentence_room ≤ length into
    → told (sentence_write m out) ≡ told (sentence_write n into) → m ≡ n

-- what holds of every call of `j8_tsv8_read` that answers 0: of the text, and of what the call answers and leaves
abbrev pub SheetCalls : (List ℕ → RanSheet → Type 0) → Type 0
SheetCalls P =
    (text names types cells store : List ℕ) → (tsv8_read text names types cells store).result.number ≡ 0
    → P text (tsv8_read text names types cells store)

-- number 0 exactly if the text is accepted and there is room; then columns, cells and stored count what stands in the buffers
abbrev pub CSheetsAreRead : Type 0
CSheetsAreRead =
    (text names types cells store : List ℕ)
    → ((tsv8_read text names types cells store).result.number ≡ 0 → SheetDone text (tsv8_read text names types cells store) names types cells store)
    × ((ns : List Cell) (ts : List ColumnType) (cs : List Cell) (bs : List ℕ) → TextHolds text ns ts cs bs
    → SheetFits (length ns) (length cs) (length bs) names types cells store
    → (tsv8_read text names types cells store).result
    ≡ record { number = 0; place = 0; columns = length ns; cells = length cs; stored = length bs })

-- "a column name, 1 to 64 times", and whole rows of cells
abbrev pub CRowsAreWhole : Type 0
CRowsAreWhole =
    SheetCalls (λ text r. (1 ≤ r.result.columns) × (r.result.columns ≤ column_max) × ((rows : ℕ) × (r.result.cells ≡ rows * r.result.columns)))

-- the range of every name and cell lies in the text, or of kind 6 in the bytes stored
abbrev pub CRangesInside : Type 0
CRangesInside =
    SheetCalls
    (λ text r. Each (InRange (length text) r.result.stored) (read_names r) × Each (InRange (length text) r.result.stored) (read_cells r))

-- names are strings; each cell's kind, and what stands in the text at its range, fits the type whose number stands in its column's place
abbrev pub CKindsFitTypes : Type 0
CKindsFitTypes =
    SheetCalls
    (λ text r. Each (λ c. KindFits strs c.kind) (read_names r)
    × ((ts : List ColumnType) × (Typed r ts × Table (λ t c. KindFits t c.kind) ts (read_cells r) × Table (TextFits text) ts (read_cells r))))

-- "with exactly the bytes .. they denote": each name and cell shows what its place of the text holds, as a line would, and none is left out
abbrev pub CCellsShowTheirTexts : Type 0
CCellsShowTheirTexts =
    SheetCalls
    (λ text r. OneForOne (Shows text (read_store r)) (name_parts (lines_of text)) (read_names r)
    × OneForOne (Shows text (read_store r)) (data_parts (lines_of text)) (read_cells r))

-- every other number is a refusal, 2, 4, 6 to 12 or 19 to 27, and it leaves all buffers as they were
abbrev pub CSheetsDoneOrRefused : Type 0
CSheetsDoneOrRefused =
    (text names types cells store : List ℕ)
    → ((tsv8_read text names types cells store).result.number ≡ 0)
    ⊎ SheetRefused text (tsv8_read text names types cells store) names types cells store

-- "last 12": only a text without any fault has it
abbrev pub CRoomIsLast : Type 0
CRoomIsLast =
    (text names types cells store : List ℕ) → (tsv8_read text names types cells store).result.number ≡ number_of no_room
    → (ns : List Cell) × ((ts : List ColumnType) × ((cs : List Cell) × ((bs : List ℕ) × TextHolds text ns ts cs bs)))

-- the rooms of include/j8.h always suffice
abbrev pub CSheetsHaveRoom : Type 0
CSheetsHaveRoom =
    (text names types cells store : List ℕ) → names_room ≤ length names → types_room ≤ length types
    → (cells_room ≤ length cells) ⊎ (text_cells_room (length text) ≤ length cells) → store_room (length text) ≤ length store
    → (tsv8_read text names types cells store).result.number ≡ number_of no_room → ⊥
