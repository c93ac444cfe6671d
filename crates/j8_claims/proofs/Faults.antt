-- The examples of faults: each definition is computed on all of them, and a short text that is refused is refused whatever is lent.
-- Assumes nothing.
use Prim.Native.Nat.{ℕ, ◌≤◌}
use mathlib.Core.Bool.{Bool, true, ◌&&◌}
use mathlib.Core.List.{List, [], ◌∷◌, map}
use mathlib.Core.Path.{◌≡◌, refl}
use native.Mathlib.Omega.{arith}
use lib.Dec.{leb}
use lib.ListN.{length, length-append}
use borrow.Author.Tests.{le-ltb, leb-true}
use Rattle.prelude.specs.Limits.{text_max}
use Rattle.prelude.specs.declared.refusals.Refusal.{Refusal}
use Rattle.prelude.specs.Refusals.{number_of}
use Rattle.prelude.specs.Pick.{pick}
use Rattle.prelude.proofs.Cases.{and_left, and_right}
use Rattle.utf8.specs.Class.{class_of}
use Rattle.utf8.specs.Utf8.{low_of, high_of, two_bytes, three_bytes, four_bytes, long_len, len_by, char_len, valid_from, no_start, wanted, has_tails, start_bits, tails_on, value_of, least_of, value_fault, fault_from, char_fault}
use Rattle.notation.specs.Marks.{opening}
use Rattle.escapes.specs.Escapes.{lookup, escape}
use Rattle.units.specs.Units.{unit_at}
use Rattle.strings.specs.Read as strings
use Rattle.lines.specs.Line.{faulty, blank, leads, trimmed, strip, bare_fault, bare_from, bare, kind_of, read_stripped, read_line}
use Rattle.tokens.specs.Blanks.{is_space, passing, blanks_from}
use Rattle.tokens.specs.Words.{is_letter, run_of, same_bytes}
use Rattle.tokens.specs.Numbers.{is_e, is_sign, is_number, in_exp, exp_digits, behind_e, behind_frac, in_frac, behind_point, behind_int, in_int, int, number_kind, number_from, number_at}
use Rattle.tokens.specs.Starts.{start_of, comma_at}
use Rattle.json8.specs.Nodes as nodes
use Rattle.json8.specs.Leaves.{spaces, comma, slashed, string, plain, number}
use Rattle.json8.specs.Values.{value_of as jsonOf, close_or, members, group_of, group}
use Rattle.json8.specs.Read as json8
use Rattle.tsv8_cells.specs.Parts.{divided, is_gap, is_ignored, lines_left, lines_of}
use Rattle.tsv8_cells.specs.Types.{type_named, types_in, all_strs, all_digits, is_float, is_int}
use Rattle.tsv8_cells.specs.Cells.{cell_at, cells_of}
use Rattle.tsv8.specs.Lines as rows
use Rattle.tsv8.specs.Lines.{sort_of, read_lines}
use Rattle.tsv8.specs.Read as tsv8
use Rattle.tsv8.specs.Answers.{read_text}
use Rattle.structs.specs.Results.{refusal}
use Rattle.j8.specs.Runs.{string_read, json8_read, tsv8_read}
use Rattle.j8_claims.specs.Faults.{Every, Fault, faults, in_string, in_comment, in_name, PassedUp, Ordered, ordered_strings, ordered_tables, ordered_sheets}
use Rattle.j8_claims.specs.Claims.{CFaultsInOrder}

-- a short text that is refused
string_told : (s : List ℕ) (out : List ℕ) (r : Refusal) (at : ℕ) → length s ≤ text_max → strings.read_string s ≡ strings.refused r at → (string_read s out).result ≡ refusal r at
unfolding strings.read_text pick
string_told s out r at l e = rw (le-ltb text_max (length s) l, e)

table_told : (s table store : List ℕ) (r : Refusal) (at : ℕ) → length s ≤ text_max → json8.read_all s ≡ nodes.refused r at
    → (json8_read s table store).result ≡ record { number = number_of r; place = at; nodes = 0; stored = 0 }
unfolding json8.read_of pick
table_told s table store r at l e = rw (le-ltb text_max (length s) l, e)

sheet_told : (s names types cells store : List ℕ) (r : Refusal) (at : ℕ) → length s ≤ text_max → tsv8.read_all s ≡ tsv8.unread r at
    → (tsv8_read s names types cells store).result ≡ record { number = number_of r; place = at; columns = 0; cells = 0; stored = 0 }
unfolding read_text pick
sheet_told s names types cells store r at l e = rw (le-ltb text_max (length s) l, e)

-- all of them
strings_read : map (λ (e : Fault). strings.read_string (in_string e)) faults ≡ map (λ (e : Fault). strings.refused e.refusal 1) faults
unfolding pick class_of low_of high_of two_bytes three_bytes four_bytes long_len len_by char_len no_start wanted has_tails start_bits tails_on value_of least_of value_fault fault_from char_fault opening unit_at strings.read_units strings.read_token strings.read_string
strings_read = refl

lines_read : map (λ (e : Fault). read_line e.bytes) faults ≡ map (λ (e : Fault). faulty e.refusal 0) faults
unfolding pick class_of low_of high_of two_bytes three_bytes four_bytes long_len len_by char_len no_start wanted has_tails start_bits tails_on value_of least_of value_fault fault_from char_fault opening blank leads trimmed strip bare_fault bare_from bare read_stripped read_line
lines_read = refl

tables_read : map (λ (e : Fault). json8.read_all (in_string e)) faults ≡ map (λ (e : Fault). nodes.refused e.refusal 1) faults
unfolding pick class_of low_of high_of two_bytes three_bytes four_bytes long_len len_by char_len no_start wanted has_tails start_bits tails_on value_of least_of value_fault fault_from char_fault opening unit_at strings.read_units strings.read_token is_space passing blanks_from start_of nodes.seq nodes.limited spaces string jsonOf json8.read_all
tables_read = refl

comments_read : map (λ (e : Fault). json8.read_all (in_comment e)) faults ≡ map (λ (e : Fault). nodes.refused e.refusal 2) faults
unfolding pick class_of low_of high_of two_bytes three_bytes four_bytes long_len len_by char_len no_start wanted has_tails start_bits tails_on value_of least_of value_fault fault_from char_fault opening is_space passing blanks_from is_letter run_of is_e is_sign is_number in_exp exp_digits behind_e behind_frac in_frac behind_point behind_int in_int int number_kind number_from number_at start_of nodes.seq nodes.limited spaces plain number jsonOf json8.read_all
comments_read = refl

names_read : map (λ (e : Fault). tsv8.read_all (in_name e)) faults ≡ map (λ (e : Fault). tsv8.unread e.refusal 6) faults
unfolding pick class_of low_of high_of two_bytes three_bytes four_bytes long_len len_by char_len no_start wanted has_tails start_bits tails_on value_of least_of value_fault fault_from char_fault opening blank leads trimmed strip bare_fault bare_from bare read_stripped divided is_gap is_ignored lines_left lines_of all_strs cell_at cells_of same_bytes tsv8.has_types tsv8.behind_names tsv8.is_first tsv8.read_sheet tsv8.read_all
names_read = refl

-- short, all of them
all_short : List Fault → Bool
all_short [] = true
all_short (e ∷ es) = leb (length e.bytes) 5 && all_short es

module _ (out table store names types cells : List ℕ) where
  told : (es : List Fault) → all_short es ≡ true
      → map (λ (e : Fault). strings.read_string (in_string e)) es ≡ map (λ (e : Fault). strings.refused e.refusal 1) es
      → map (λ (e : Fault). read_line e.bytes) es ≡ map (λ (e : Fault). faulty e.refusal 0) es
      → map (λ (e : Fault). json8.read_all (in_string e)) es ≡ map (λ (e : Fault). nodes.refused e.refusal 1) es
      → map (λ (e : Fault). json8.read_all (in_comment e)) es ≡ map (λ (e : Fault). nodes.refused e.refusal 2) es
      → map (λ (e : Fault). tsv8.read_all (in_name e)) es ≡ map (λ (e : Fault). tsv8.unread e.refusal 6) es
      → Every (PassedUp out table store names types cells) es
  unfolding all_short
  told [] h a b c d f = tt
  told (e ∷ es) h a b c d f = (
    record {
      as_string = string_told (in_string e) out e.refusal 1 string_short (cc);
      as_line = cc;
      as_value = table_told (in_string e) table store e.refusal 1 string_short (cc);
      as_comment = table_told (in_comment e) table store e.refusal 2 comment_short (cc);
      as_name = sheet_told (in_name e) names types cells store e.refusal 6 name_short (cc);
    },
    told es (and_right (leb (length e.bytes) 5) _ h) (cc) (cc) (cc) (cc) (cc),
  )
    where
      short : length e.bytes ≤ 5
      short = leb-true (length e.bytes) 5 (and_left (leb (length e.bytes) 5) _ h)

      string_short : length (in_string e) ≤ text_max
      string_short = omega (arith, short, length-append e.bytes (34 ∷ []))

      comment_short : length (in_comment e) ≤ text_max
      comment_short = omega (arith, short)

      name_short : length (in_name e) ≤ text_max
      name_short = omega (arith, short)

  pub all_passed_up : Every (PassedUp out table store names types cells) faults
  unfolding all_short
  all_passed_up = told faults refl strings_read lines_read tables_read comments_read names_read

-- those of the order, one by one
strings_ordered : map (λ (e : Ordered). strings.read_string e.text) ordered_strings ≡ map (λ (e : Ordered). strings.refused e.refusal e.place) ordered_strings
unfolding pick class_of low_of high_of two_bytes three_bytes four_bytes long_len len_by char_len no_start wanted has_tails start_bits tails_on value_of least_of value_fault fault_from char_fault lookup escape opening unit_at strings.read_units strings.read_token strings.read_string
strings_ordered = refl

tables_ordered : map (λ (e : Ordered). json8.read_all e.text) ordered_tables ≡ map (λ (e : Ordered). nodes.refused e.refusal e.place) ordered_tables
unfolding pick class_of low_of high_of two_bytes three_bytes four_bytes long_len len_by char_len no_start wanted has_tails start_bits tails_on value_of least_of value_fault fault_from char_fault opening is_space passing blanks_from is_letter run_of is_e is_sign is_number in_exp exp_digits behind_e behind_frac in_frac behind_point behind_int in_int int number_kind number_from number_at start_of comma_at nodes.seq nodes.limited spaces plain number comma jsonOf group group_of members close_or json8.text_end json8.read_all
tables_ordered = refl

sheets_ordered : map (λ (e : Ordered). tsv8.read_all e.text) ordered_sheets ≡ map (λ (e : Ordered). tsv8.unread e.refusal e.place) ordered_sheets
unfolding pick class_of low_of high_of two_bytes three_bytes four_bytes long_len len_by char_len no_start wanted has_tails start_bits tails_on value_of least_of value_fault fault_from char_fault opening blank leads trimmed strip bare_fault bare_from bare kind_of valid_from read_stripped same_bytes slashed divided is_gap is_ignored lines_left lines_of type_named types_in all_strs all_digits is_float is_int is_e is_sign is_number in_exp exp_digits behind_e behind_frac in_frac behind_point behind_int in_int int number_kind cell_at cells_of sort_of rows.read_line read_lines tsv8.has_types tsv8.behind_names tsv8.is_first tsv8.read_sheet tsv8.read_all
sheets_ordered = refl

-- short, all of them
short_ordered : List Ordered → Bool
short_ordered [] = true
short_ordered (e ∷ es) = leb (length e.text) 64 && short_ordered es

module _ (A : Type 0) (read : List ℕ → A) (answer : Refusal → ℕ → A) (P : Ordered → Type 0)
    (one : (e : Ordered) → length e.text ≤ text_max → read e.text ≡ answer e.refusal e.place → P e) where
  each_ordered : (es : List Ordered) → short_ordered es ≡ true → map (λ (e : Ordered). read e.text) es ≡ map (λ (e : Ordered). answer e.refusal e.place) es → Every P es
  unfolding short_ordered
  each_ordered [] h q = tt
  each_ordered (e ∷ es) h q =
      let a : read e.text ≡ answer e.refusal e.place = cc in
      let b : map (λ (e : Ordered). read e.text) es ≡ map (λ (e : Ordered). answer e.refusal e.place) es = cc in
      let l = leb-true (length e.text) 64 (and_left (leb (length e.text) 64) _ h) in
      (one e (omega (arith, l)) a, each_ordered es (and_right (leb (length e.text) 64) _ h) b)

pub in_order : CFaultsInOrder
unfolding short_ordered
in_order out table store names types cells = (
  each_ordered _ strings.read_string strings.refused _ (λ e l q. string_told e.text out e.refusal e.place l q) ordered_strings refl strings_ordered,
  each_ordered _ json8.read_all nodes.refused _ (λ e l q. table_told e.text table store e.refusal e.place l q) ordered_tables refl tables_ordered,
  each_ordered _ tsv8.read_all tsv8.unread _ (λ e l q. sheet_told e.text names types cells store e.refusal e.place l q) ordered_sheets refl sheets_ordered,
)
