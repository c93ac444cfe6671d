-- What the readers of the code promise each other: these speak of the code alone, and no rule cites them.
-- Assumes nothing.
use Rattle.std.specs.Prelude.{ℕ, ◌+◌, ◌-◌, ◌*◌, ◌≤◌, true, false, Result, Ok, Err, List, [], ◌∷◌, ◌++◌, ◌≡◌, eqb, length, get_or, drop}
use Rattle.std.proofs.lemmas.List.Edits.{sets}
use Rattle.strings.specs.Read.{read_token}
use Rattle.string_tokens.specs.inner.Quotes.{PlainToken, denoted}
use Rattle.tokens.specs.Words.{is_digit}
use Rattle.tokens.specs.Numbers.{found, number_at}
use Rattle.tokens.specs.inner.Parts.{name_kind, Named}
use Rattle.prelude.specs.Limits.{text_max, node_max}
use Rattle.prelude.specs.Pick.{pick}
use Rattle.prelude.specs.declared.refusals.Refusal.{Refusal}
use Rattle.prelude.specs.declared.refusals.Refused.{Refused}
use Rattle.prelude.specs.Refusals.{cut_off, misplaced}
use Rattle.json8.specs.Nodes.{Node, node, Read, got, refused, Reader}
use Rattle.json8.specs.Values.{value_of}
use Rattle.json8_leaves.specs.declared.nodes.Noted.{Noted}
use Rattle.json8_leaves.specs.declared.nodes.Step.{Step}

-- where a reader starts: a place, with the nodes before it
pub record Place (text : List ℕ) (at n : ℕ) : Type 0 where
  pub short : length text ≤ text_max
  pub inside : at ≤ length text
  pub few : n ≤ node_max

-- a node as one number
unfoldable pub noted : Node → ℕ
noted v = 4294967296 * v.place + 65536 * v.size + 2048 * v.kind + v.count

unfoldable pub notes : List Node → List ℕ
notes [] = []
notes (v ∷ r) = noted v ∷ notes r

-- A pass notes a string's place in the text. The table has that of an escaped one's bytes in the store, behind m bytes before
unfoldable pub nodes_of : ℕ → List Node → List Node
nodes_of m [] = []
nodes_of m (v ∷ r) = pick (eqb v.kind 6) (node 6 1 m v.size ∷ nodes_of (m + v.size) r) (v ∷ nodes_of m r)

-- the bytes that the noted nodes append to the store
unfoldable pub bytes_of : List ℕ → List Node → List ℕ
bytes_of text [] = []
bytes_of text (v ∷ r) = pick (eqb v.kind 6) (denoted (read_token (drop v.place text)) ++ bytes_of text r) (bytes_of text r)

-- a noted node's numbers are small enough, and an escaped string's place is its token's
pub record Sound (text : List ℕ) (v : Node) : Type 0 where
  pub kind : v.kind ≤ 8
  pub count : v.count ≤ node_max
  pub place : v.place ≤ text_max
  pub size : v.size ≤ text_max
  pub inside : v.place ≤ length text
  pub escaped : v.kind ≡ 6 → v.size ≡ length (denoted (read_token (drop v.place text)))

abbrev pub AllSound : List ℕ → List Node → Type 0
AllSound text [] = Unit
AllSound text (v ∷ r) = Sound text v × AllSound text r

-- something was read, with m bytes before it in the store: the place behind it, the nodes so far, and the tag; from n on its nodes are noted
pub record Took (text : List ℕ) (want : Read) (at n m p i tag : ℕ) (t t' : List ℕ) : Type 0 where
  pub len : ℕ
  pub vs : List Node
  pub same : want ≡ got len tag (nodes_of m vs) (bytes_of text vs)
  pub place : p ≡ at + len
  pub nodes : i ≡ n + length vs
  pub table : t' ≡ sets t n (notes vs)
  pub sound : AllSound text vs

-- of a refused text nothing is promised: its notes are thrown away
abbrev pub ToldBy : List ℕ → Read → (at n m : ℕ) → Result Noted Refused → (t t' : List ℕ) → Type 0
ToldBy text want at n m (Ok v) t t' = Took text want at n m v.at v.nodes 0 t t'
ToldBy text want at n m (Err f) t t' = want ≡ refused f.refusal f.place

pub record Told (text : List ℕ) (want : Read) (at n m : ℕ) (r : Result Noted Refused) (t t' : List ℕ) : Type 0 where
  pub so : ToldBy text want at n m r t t'

-- the same of a reader that makes no nodes; the byte behind is answered too
pub record Went (want : Read) (at p tag : ℕ) : Type 0 where
  pub len : ℕ
  pub same : want ≡ got len tag [] []
  pub place : p ≡ at + len

abbrev pub SteppedBy : List ℕ → Read → ℕ → Result Step Refused → Type 0
SteppedBy text want at (Ok v) = Went want at v.at 0 × (v.byte ≡ get_or (drop v.at text) 0 0)
SteppedBy text want at (Err f) = want ≡ refused f.refusal f.place

pub record Stepped (text : List ℕ) (want : Read) (at : ℕ) (r : Result Step Refused) : Type 0 where
  pub so : SteppedBy text want at r

-- what is wrong where a mark should stand
abbrev pub absent : List ℕ → Refusal
absent [] = cut_off
absent (x ∷ r) = misplaced

-- a value that is no list or dict: where a bracket stands, it answers as if nothing did
abbrev pub none : Reader
none p n m s = refused misplaced p

abbrev pub scalar : Reader
scalar = value_of none none

-- a leaf of so many bytes that few of them tell, by the byte x that it begins with
pub record ShortLeaf (s : List ℕ) (x len : ℕ) : Type 0 where
  pub quoted : x ≡ 0x22 → PlainToken s 1 (len - 1)
  pub digits : is_digit x ≡ true → found 3 len ≡ number_at s
  pub named : (x ≡ 0x22 → ⊥) → is_digit x ≡ false → Named s x len

abbrev pub short_kind : ℕ → ℕ
short_kind x = pick (is_digit x) 3 (name_kind x)
