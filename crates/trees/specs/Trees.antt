-- The tree of values that a table means, and the text that is written for it: "no spaces, no comments, no trailing commas, keys quoted,
-- numbers as they stand".
-- Assumes nothing.
use Rattle.std.specs.Prelude.{ℕ, Bool, true, false, List, [], ◌∷◌, ◌++◌}
use Rattle.strings_write.specs.Write.{write_string}
use Rattle.tokens.specs.Starts.{begin_array, begin_object, name_separator, value_separator}
use Rattle.tokens.specs.Words.{null_word, false_word, true_word}
use Rattle.json8.specs.declared.nodes.Sort.{Sort}
use Rattle.json8.specs.declared.nodes.Sort.TheVariants.{Items, Pairs}
use Rattle.json8.specs.Values.{close_of}

-- what stands before a member: nothing, or a key's bytes
abbrev pub Label : Sort → Type 0
Label Items = Unit
Label Pairs = List ℕ

mutual
  -- a number by its text and a string by its bytes, "5 and 6 counted alike"; lists and dicts by their members, in order
  pub data Tree : Type 0 where
    null : Tree
    bool : Bool → Tree
    number : List ℕ → Tree
    string : List ℕ → Tree
    branch : (b : Sort) → Members b → Tree

  pub data Members : Sort → Type 0 where
    none : {b : Sort} → Members b
    one : {b : Sort} → Label b → Tree → Members b → Members b

abbrev pub open_of : Sort → ℕ
open_of Items = begin_array
open_of Pairs = begin_object

-- a key and its colon
abbrev pub render_label : (b : Sort) → Label b → List ℕ
render_label Items k = []
render_label Pairs k = write_string k ++ (name_separator ∷ [])

-- the comma before a member, unless it is the first
abbrev pub comma : Bool → List ℕ
comma true = []
comma false = value_separator ∷ []

unfoldable mutual
  pub render : Tree → List ℕ
  render null = null_word
  render (bool true) = true_word
  render (bool false) = false_word
  render (number w) = w
  render (string bs) = write_string bs
  render (branch b ms) = open_of b ∷ render_members true ms

  -- the members from one on, and the closing bracket
  pub render_members : {b : Sort} → Bool → Members b → List ℕ
  render_members {b} first none = close_of b ∷ []
  render_members {b} first (one k t ms) = comma first ++ (render_label b k ++ (render t ++ render_members false ms))
