-- What one C function writes and another reads: the text stands in front of the buffer, as long as the result says.
-- Assumes nothing.
use Prim.Native.Nat.{ℕ, ◌/◌, ◌≤◌}
use mathlib.Core.Bool.{true}
use mathlib.Core.List.{List, ◌++◌}
use mathlib.Core.Path.{◌≡◌, sym, ap, ◌∙◌, subst}
use borrow.Author.Tests.{le-leb}
use lib.ListN.{length, take, drop}
use lib.Seq.{take-append_seam}
use Rattle.prelude.specs.Bytes.{IsBytes}
use Rattle.prelude.specs.Limits.{text_max, line_max, upload_max}
use Rattle.prelude.specs.Pick.{pick}
use Rattle.strings_write.specs.Write.{write_string, written_in, wrote_into}
use Rattle.string_claims.proofs.Claims.{written_reads_back}
use Rattle.trees.specs.Trees.{Tree, render}
use Rattle.trees.specs.Tables.{just, nodes_in, tree_of}
use Rattle.trees.specs.Sizes.{size_of, store_of}
use Rattle.trees.proofs.Claims.{written_table_reads_back}
use Rattle.json8_write.specs.Write.{wrote_tree}
use Rattle.lines_write.specs.Write.{right_records, write_quoted, wrote_lines, lines_into}
use Rattle.j8_lines.specs.Lines.{cut}
use Rattle.j8_lines.specs.Lists.{Call, run, began, joined, finished}
use Rattle.upload_claims.specs.Claims.{Within, EndedWith}
use Rattle.upload_claims.proofs.Claims.{written_lines_read_back}
use Rattle.structs.specs.declared.results.J8Result.{J8Result}
use Rattle.structs.specs.Results.{done, written_result}
use Rattle.structs.specs.Uploads.{given}
use Rattle.j8.specs.Runs.{string_write, string_read, lines_write, json8_write, json8_read, RanCall}
use Rattle.j8_claims.specs.Lists.{run_c, began_c}
use Rattle.j8_claims.specs.Claims.{StringReturned, LinesReturned, TableReturned}
use Rattle.j8_claims.proofs.Lists.{run_back, handed_back}

-- a text that fits stands in front, and the rest is as it was
wrote : (text out : List ℕ) → length text ≤ length out → wrote_into text out ≡ text ++ drop (length text) out
unfolding wrote_into pick
wrote text out h = rw (le-leb (length text) (length out) h)

pub front : (text out : List ℕ) → length text ≤ length out → take (length text) (wrote_into text out) ≡ text
front text out h = ap (take (length text)) (wrote text out h) ∙ take-append_seam text (drop (length text) out)

pub write_done : (text : List ℕ) (room : ℕ) → length text ≤ room → written_result (written_in room text) ≡ done (length text)
unfolding written_in pick
write_done text room h = rw (le-leb (length text) room h)

pub string_returned :
    (bytes out into : List ℕ) → IsBytes bytes → length (write_string bytes) ≤ length out → length (write_string bytes) ≤ text_max → length bytes ≤ length into
    → StringReturned bytes (string_write bytes out) (string_read (take (string_write bytes out).result.length (string_write bytes out).out) into) into
string_returned bytes out into b h k l =
    let w = write_done (write_string bytes) (length out) h in
    let f = front (write_string bytes) out h in
    let r = written_reads_back (length into) bytes b k l in
    record { wrote = w; read = rw (w, f, r); same = rw (w, f, r) }

module _ (records text : List ℕ) (e : right_records 0 records ≡ true) (h : length (write_quoted records) ≤ length text) where
  lines_done : written_result (wrote_lines (length text) records) ≡ done (length (write_quoted records))
  unfolding wrote_lines pick
  lines_done = rw (e, le-leb (length (write_quoted records)) (length text) h)

  lines_front : take (length (write_quoted records)) (lines_into records text) ≡ write_quoted records
  unfolding lines_into pick
  lines_front =
      rw (e, le-leb (length (write_quoted records)) (length text) h) (take-append_seam (write_quoted records) (drop (length (write_quoted records)) text))

  pub lines_returned :
      (cs : List Call) (line out : List ℕ) → line_max ≤ length line → IsBytes records
      → joined cs ≡ take (lines_write records text).result.length (lines_write records text).out → finished cs ≡ true
      → Within line_max (cut (write_quoted records)).closed → length (write_quoted records) ≤ upload_max → length records ≤ length out
      → LinesReturned records (lines_write records text) (run_c (began_c line out) cs) out
  lines_returned cs line out l b j f w u r =
      let p : joined cs ≡ write_quoted records = j ∙ ap (λ (r : J8Result). take r.length (lines_into records text)) lines_done ∙ lines_front in
      let q : given (run_c (began_c line out) cs).fed.upload (run_c (began_c line out) cs).line (run_c (began_c line out) cs).out
      ≡ (run (began line out) cs).lent =
      ap (λ (r : RanCall). given r.fed.upload r.line r.out) (run_back (began line out) cs) ∙ handed_back (run (began line out) cs) in
      record { wrote = lines_done; read = subst (EndedWith records out) (sym q) (written_lines_read_back records cs line out l b e p f w u r) }

table_done : (t : Tree) (room : ℕ) → length (render t) ≤ room → written_result (wrote_tree room (just t)) ≡ done (length (render t))
unfolding pick
table_done t room h = rw (le-leb (length (render t)) room h)

pub table_returned :
    (table text store : List ℕ) (t : Tree) (out into stored : List ℕ) → IsBytes text → IsBytes store
    → tree_of (nodes_in table) text store ≡ just t → length (render t) ≤ text_max → length (render t) ≤ length out
    → size_of t ≤ length into / 4 → store_of t ≤ length stored
    → TableReturned t (json8_write table text store out)
    (json8_read (take (json8_write table text store out).result.length (json8_write table text store out).out) into stored)
table_returned table text store t out into stored a b e h k i j =
    let w = table_done t (length out) k in
    let f = front (render t) out k in
    let v = written_table_reads_back table text store t a b e h into stored i j in
    record { wrote = rw (e, w); read = rw (e, w, f, v.read.accepted, v.bytes); same = rw (e, w, f) v.read.means }
