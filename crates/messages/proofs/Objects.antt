-- An object is what JSON8's writer has for its tree: the keys are written as they stand, by computing, and parts are joined to the right.
-- Assumes nothing.
use Prim.Native.Nat.{ℕ}
use mathlib.Core.List.{List, ◌++◌, append_assoc}
use mathlib.Core.Path.{◌≡◌, refl, ◌∙◌}
use Rattle.prelude.specs.Bytes.{ascii}
use Rattle.prelude.specs.Pick.{pick}
use Rattle.utf8.specs.Class.{class_of}
use Rattle.utf8.specs.Utf8.{len_by, char_len, valid_from}
use Rattle.escapes.specs.Escapes.{lookup}
use Rattle.units.specs.Written.{written}
use Rattle.strings_write.specs.Write.{write_units, quoted, write_string}
use Rattle.trees.specs.Trees.{Tree, null, string, render, render_members}
use Rattle.messages.specs.declared.Head.{Head}
use Rattle.messages.specs.declared.Head.TheVariants.{Refused, Note}
use Rattle.messages.specs.declared.Spot.TheVariants.{Line, Text, Quoted}
use Rattle.decimals.specs.Decimals.{decimal}
use Rattle.messages.specs.Messages.{fields_text, object_text}
use Rattle.messages.specs.Objects.{fields, count, object_of}

number_key : write_string (ascii "number") ≡ ascii "\"number\""
unfolding write_string pick valid_from char_len len_by class_of quoted write_units written lookup
number_key = refl

line_key : write_string (ascii "line") ≡ ascii "\"line\""
unfolding write_string pick valid_from char_len len_by class_of quoted write_units written lookup
line_key = refl

column_key : write_string (ascii "column") ≡ ascii "\"column\""
unfolding write_string pick valid_from char_len len_by class_of quoted write_units written lookup
column_key = refl

place_key : write_string (ascii "place") ≡ ascii "\"place\""
unfolding write_string pick valid_from char_len len_by class_of quoted write_units written lookup
place_key = refl

sentence_key : write_string (ascii "sentence") ≡ ascii "\"sentence\""
unfolding write_string pick valid_from char_len len_by class_of quoted write_units written lookup
sentence_key = refl

-- five pairs, by their keys
module _ (n l c p s : Tree) where
  dict :
      render (fields n l c p s)
      ≡ ascii "{\"number\":"
      ++ (render n
      ++ (ascii ",\"line\":"
      ++ (render l
      ++ (ascii ",\"column\":" ++ (render c ++ (ascii ",\"place\":" ++ (render p ++ (ascii ",\"sentence\":" ++ (render s ++ ascii "}")))))))))
  unfolding render render_members
  dict = rw (number_key, line_key, column_key, place_key, sentence_key)

-- the texts of five values, with the keys before them, on a line
abbrev five_text : List ℕ → List ℕ → List ℕ → List ℕ → List ℕ → List ℕ
five_text n l c p s =
    ascii "{\"number\":" ++ (n ++ (ascii ",\"line\":" ++ (l ++ (ascii ",\"column\":" ++ (c ++ (ascii ",\"place\":" ++ (p ++ (ascii ",\"sentence\":" ++ (s ++ ascii "}\n")))))))))

dict_line : (n l c p s : Tree) → five_text (render n) (render l) (render c) (render p) (render s) ≡ render (fields n l c p s) ++ ascii "\n"
dict_line n l c p s = rw (dict n l c p s) (simp append_assoc)

pub object_tree : (head : Head) (s : List ℕ) → object_text head s ≡ render (object_of head s) ++ ascii "\n"
unfolding object_text fields_text render
object_tree (Refused n (Line line) place) s =
    (let z : object_text (Refused n (Line line) place) s ≡ five_text (decimal n) (decimal line) (ascii "null") (decimal place) (write_string s) = simp append_assoc in z)
    ∙ dict_line (count n) (count line) null (count place) (string s)
object_tree (Refused n (Text line column) place) s =
    (let z : object_text (Refused n (Text line column) place) s ≡ five_text (decimal n) (decimal line) (decimal column) (decimal place) (write_string s) = simp append_assoc in z)
    ∙ dict_line (count n) (count line) (count column) (count place) (string s)
object_tree (Refused n Quoted place) s =
    (let z : object_text (Refused n Quoted place) s ≡ five_text (decimal n) (ascii "null") (ascii "null") (decimal place) (write_string s) = simp append_assoc in z)
    ∙ dict_line (count n) null null (count place) (string s)
object_tree Note s = dict_line null null null null (string s)
