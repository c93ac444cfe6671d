-- What the reader of a token promises of it: these speak of the code alone, and no rule cites them.
-- Assumes nothing.
use Rattle.std.specs.Prelude.{ℕ, ◌+◌, ◌≤◌, ◌<◌, List, [], ◌≡◌, false, ltb, length, get_or, take, drop, Result, Ok, Err}
use Rattle.std.proofs.lemmas.List.Edits.{sets}
use Rattle.prelude.specs.declared.refusals.Refused.{Refused}
use Rattle.prelude.specs.Bytes.{backslash}
use Rattle.prelude.specs.Pick.{pick}
use Rattle.eights.specs.inner.Words.{is_odd}
use Rattle.notation.specs.declared.styles.Style.{Style}
use Rattle.notation.specs.Styles.{quote, took}
use Rattle.units.specs.Units.{unit_at}
use Rattle.notation.specs.Literals.{literal_run}
use Rattle.strings.specs.declared.answers.Token.{Token}
use Rattle.string_tokens.specs.declared.answers.Quoted.{Quoted}
use Rattle.string_tokens.specs.declared.answers.Quoted.TheVariants.{Plain, Slashed}
use Rattle.notation.specs.Marks.{opens, opening}
use Rattle.strings.specs.Read.{StringRead, accepted, refused, read_token, token_at, token_of}

-- the answers of a token's reader
abbrev pub ended_at : ℕ → ℕ → Result Token Refused
ended_at end len = Ok (token_at end len)

abbrev pub failed_at : Refused → Result Token Refused
failed_at f = Err f

-- without a backslash: a mark of k bytes, literal characters, and the closing quote at e
pub record PlainToken (s : List ℕ) (k e : ℕ) : Type 0 where
  pub style : Style
  pub mark : opening s ≡ opens style k
  pub run : e ≡ k + literal_run style 0 (drop k s)
  pub ends : get_or (drop e s) 0 0 ≡ quote style

-- with one: the literal characters behind the mark don't end at the closing quote
pub record SlashedToken (s : List ℕ) (end count : ℕ) : Type 0 where
  pub style : Style
  pub from : ℕ
  pub mark : opening s ≡ opens style from
  pub goes_on : get_or (drop (from + literal_run style 0 (drop from s)) s) 0 0 ≡ quote style → ⊥
  pub told : ended_at end count ≡ token_of (read_token s)

abbrev pub JudgedBy : List ℕ → Result Quoted Refused → Type 0
JudgedBy s (Ok (Plain k e)) = PlainToken s k e
JudgedBy s (Ok (Slashed end count)) = SlashedToken s end count
JudgedBy s (Err f) = failed_at f ≡ token_of (read_token s)

pub record Judged (s : List ℕ) (r : Result Quoted Refused) : Type 0 where
  pub so : JudgedBy s r

-- the bytes of a string
abbrev pub denoted : StringRead → List ℕ
denoted (accepted bs e) = bs
denoted (refused refusal at) = []

-- the bytes of the escape of a code point in double quotes
unfoldable pub len_of : ℕ → ℕ
len_of v = pick (ltb v 0x10000) 6 12

-- a unit of n bytes that denotes m
pub record Takes (st : Style) (r : List ℕ) (n m : ℕ) : Type 0 where
  pub bytes : List ℕ
  pub is : unit_at st r ≡ took n bytes
  pub count : length bytes ≡ m

-- only plain bytes stand from a place on before another
pub record Plains (s : List ℕ) (from to : ℕ) : Type 0 where
  pub onward : from ≤ to
  pub inside : to ≤ length s
  pub plain : (j : ℕ) → from ≤ j → j < to → is_odd (get_or s j 0) ≡ false

-- n bytes before a backslash stored; what is stored behind them may be anything
pub record Fronted (s : List ℕ) (at o : ℕ) (out : List ℕ) (n : ℕ) (new : List ℕ) : Type 0 where
  pub bytes : List ℕ
  pub inside : at + n ≤ length s
  pub known : n ≤ length bytes
  pub fits : o + length bytes ≤ length out
  pub same : take n bytes ≡ take n (drop at s)
  pub clean : (j : ℕ) → j < n → get_or s (at + j) 0 ≡ backslash → ⊥
  pub none : n ≡ 0 → get_or s at 0 ≡ backslash
  pub stored : new ≡ sets out o bytes

-- one unit stored
pub record Filled (st : Style) (s : List ℕ) (at o : ℕ) (out : List ℕ) (to p : ℕ) (new : List ℕ) : Type 0 where
  pub len : ℕ
  pub bytes : List ℕ
  pub is : unit_at st (drop at s) ≡ took len bytes
  pub behind : to ≡ at + len
  pub count : p ≡ o + length bytes
  pub stored : new ≡ sets out o bytes
