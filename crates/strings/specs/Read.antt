-- Reading a J8 string: "A text is an opening mark, units, a closing quote. .. Reading goes left to right, and the first failing unit
-- decides."
-- Assumes nothing.
use Rattle.std.specs.Prelude.{ℕ, zero, suc, pred, ◌+◌, List, [], ◌∷◌, ◌++◌, ltb, eqb, length, drop, Result, Ok, Err}
use Rattle.prelude.specs.Limits.{text_max}
use Rattle.prelude.specs.Pick.{pick}
use Rattle.prelude.specs.declared.refusals.Refusal.{Refusal}
use Rattle.prelude.specs.declared.refusals.Refused.{Refused}
use Rattle.prelude.specs.Refusals.{too_long, no_opening, cut_off, trailing, no_room, number_of, refused_at}
use Rattle.notation.specs.declared.styles.Style.{Style}
use Rattle.notation.specs.Marks.{Opening, opens, unopened, opening}
use Rattle.notation.specs.Styles.{StringUnit, close, took, fault}
use Rattle.units.specs.Units.{unit_at}
use Rattle.strings.specs.declared.answers.Token.{Token}

-- the bytes denoted and the place behind the closing quote; or the refusal and its place
pub data StringRead : Type 0 where
  accepted : List ℕ → ℕ → StringRead
  refused : Refusal → ℕ → StringRead

-- these bytes, and then what the rest denotes
abbrev pub more : List ℕ → StringRead → StringRead
more bs (accepted cs e) = accepted (bs ++ cs) e
more bs (refused refusal at) = refused refusal at

-- behind the unit at the place p
abbrev pub after : ℕ → StringUnit → (ℕ → ℕ → StringRead) → StringRead
after p close go = accepted [] (p + 1)
after p (took n bs) go = more bs (go (p + n) (pred n))
after p (fault refusal) go = refused refusal p

-- the units up to the closing quote; p is the next unit's place, and k bytes come before it
unfoldable pub read_units : Style → ℕ → ℕ → List ℕ → StringRead
read_units st p k [] = refused cut_off p
read_units st p zero (x ∷ r) = after p (unit_at st (x ∷ r)) (λ q m. read_units st q m r)
read_units st p (suc k) (x ∷ r) = read_units st p k r

abbrev pub read_from : Opening → List ℕ → StringRead
read_from (opens st n) s = read_units st n n s
read_from unopened s = refused no_opening 0

-- the string that a text begins with, whatever follows its closing quote
unfoldable pub read_token : List ℕ → StringRead
read_token s = read_from (opening s) s

-- "bytes after the closing quote", in a text of n bytes
abbrev pub nothing_behind : ℕ → StringRead → StringRead
nothing_behind n (accepted bs e) = pick (eqb e n) (accepted bs e) (refused trailing e)
nothing_behind n (refused refusal at) = refused refusal at

-- the string that a text is
unfoldable pub read_string : List ℕ → StringRead
read_string s = nothing_behind (length s) (read_token s)

-- "all else is right, and the result is longer than the room"
abbrev pub fitted : ℕ → StringRead → StringRead
fitted room (accepted bs e) = pick (ltb room (length bs)) (refused no_room 0) (accepted bs e)
fitted room (refused refusal at) = refused refusal at

-- a whole text, read into a room of so many bytes: "string .. text over 32,768 bytes (0)"; "2 on whole texts, then the leftmost fault in the text, then 12"
unfoldable pub read_text : ℕ → List ℕ → StringRead
read_text room s = pick (ltb text_max (length s)) (refused too_long 0) (fitted room (read_string s))

-- the string that a text begins with, under the same cap and in the same order
unfoldable pub read_text_token : ℕ → List ℕ → StringRead
read_text_token room s = pick (ltb text_max (length s)) (refused too_long 0) (fitted room (read_token s))

-- the code's answers
abbrev pub decoded_of : StringRead → Result ℕ Refused
decoded_of (accepted bs e) = Ok (length bs)
decoded_of (refused refusal at) = Err (refused_at refusal at)

abbrev pub token_at : ℕ → ℕ → Token
token_at end len = record { end = end; len = len }

abbrev pub token_of : StringRead → Result Token Refused
token_of (accepted bs e) = Ok (token_at e (length bs))
token_of (refused refusal at) = Err (refused_at refusal at)

-- a token's answer in document 01's numbers: the refusal's number and place, the place behind the string and its length; 0 for what doesn't
-- apply
pub record TokenNumbers : Type 0 where
  pub number : ℕ
  pub place : ℕ
  pub end : ℕ
  pub size : ℕ

abbrev pub token_numbers : Result Token Refused → TokenNumbers
token_numbers (Ok t) = record { number = 0; place = 0; end = t.end; size = t.len }
token_numbers (Err f) = record { number = number_of f.refusal; place = f.place; end = 0; size = 0 }

-- what a buffer holds afterwards: the bytes denoted in front of what was there; "a refused text leaves the lent result as it was"
abbrev pub read_into : StringRead → List ℕ → List ℕ
read_into (accepted bs e) out = bs ++ drop (length bs) out
read_into (refused refusal at) out = out
