-- A token judged: plain bytes are literal characters, so a double quote behind them closes; behind any other end of the run the units decide.
-- Assumes nothing.
use Rattle.std.specs.Prelude.{Option, Some, None, Result, Ok, Err}
use Rattle.prelude.specs.declared.refusals.Refused.{Refused}
use Rattle.prelude.specs.Refusals.{no_opening, refused_at}
use mathlib.Core.Path.{◌≡◌, refl, sym, ap, ◌∙◌, subst}
use mathlib.Core.Bool.{true, false}
use mathlib.Core.List.{List}
use Prim.Native.Nat.{ℕ, zero, suc, ◌+◌, ◌-◌, ◌≤◌, ◌<◌}
use native.Mathlib.Omega.{arith}
use borrow.Author.Tests.{eqb-true}
use lib.Dec.{eqb}
use lib.ListN.{length, get_or, drop}
use lib.Seq.{drop-cons, get_or-drop}
use Rattle.prelude.specs.Pick.{pick}
use Rattle.prelude.proofs.Cases.{split, never}
use Rattle.utf8.specs.Class.{class_of}
use Rattle.notation.specs.declared.styles.Style.{Style}
use Rattle.notation.specs.declared.styles.Style.TheVariants.{Json}
use Rattle.notation.specs.Styles.{quote}
use Rattle.notation.specs.Literals.{literal_len, literal_run}
use Rattle.notation.proofs.LiteralClasses.{plain_char}
use Rattle.runs.specs.inner.Blocks.{Running}
use Rattle.runs.proofs.LiteralRuns.{here, moved, stopped}
use Rattle.eights.specs.inner.Words.{is_odd, First}
use Rattle.strings.specs.declared.answers.Token.{Token}
use Rattle.string_tokens.specs.declared.answers.Quoted.{Quoted}
use Rattle.string_tokens.specs.declared.answers.Quoted.TheVariants.{Plain, Slashed}
use Rattle.notation.specs.declared.marks.Mark.{Mark}
use Rattle.notation.specs.Marks.{opens, unopened, opening, opening_of}
use Rattle.strings.specs.Read.{read_units, read_token, token_of}
use Rattle.string_tokens.specs.inner.Quotes.{PlainToken, Judged}
use Rattle.strings.proofs.Steps.{read_skip}
use Rattle.strings.proofs.Places.{Marked, opening_fits}

pub not_odd : (b : ℕ) → is_odd b ≡ false → class_of b ≡ 0
unfolding is_odd pick
not_odd b e = split (eqb (class_of b) 0) (λ q. eqb-true _ _ q) (λ q. never (let z : true ≡ false = rw q at e in cc))

pub plains_run : (s : List ℕ) (from at n : ℕ) → Running Json s from at → at + n ≤ length s
    → ((j : ℕ) → j < n → is_odd (get_or s (at + j) 0) ≡ false) → Running Json s from (at + n)
plains_run s from at zero r h f = subst (Running Json s from) (let z : at ≡ at + 0 = omega arith in z) r
plains_run s from at (suc n) r h f =
    let i = plains_run s from at n r (omega arith) (λ j l. f j (omega arith)) in
    let q : at + n + 1 ≡ at + suc n = omega arith in
    subst (Running Json s from) q
    (moved Json s from (at + n) 1 i (plain_char Json s (at + n) _ (omega arith) refl (not_odd _ (f n (omega arith)))))

module _ (s : List ℕ) (h : 18 ≤ length s) (k : ℕ) (a : First (λ j. is_odd (get_or s (1 + j) 0)) 8 k) where
  pub first_eight : Running Json s 1 (1 + k)
  first_eight = plains_run s 1 1 k (here Json s 1 (omega arith)) (omega (arith, a.inside)) a.before

  pub next_eight : (m : ℕ) → 8 ≤ k → First (λ j. is_odd (get_or s (9 + j) 0)) 8 m → Running Json s 1 (9 + m)
  next_eight m l b =
      plains_run s 1 9 m (plains_run s 1 1 8 (here Json s 1 (omega arith)) (omega arith) (λ j i. a.before j (omega arith))) (omega (arith, b.inside)) b.before

quote_stops : (s : List ℕ) (e : ℕ) → e < length s → get_or s e 0 ≡ 0x22 → 0 ≡ literal_len Json (drop e s)
unfolding literal_len pick
quote_stops s e h q = rw (drop-cons s e 0 h, q)

opens_json : (s : List ℕ) → get_or s 0 0 ≡ 0x22 → opening s ≡ opens Json 1
unfolding opening pick
opens_json s q = rw q

pub closed_told : (s : List ℕ) (e : ℕ) → get_or s 0 0 ≡ 0x22 → e < length s → Running Json s 1 e → get_or s e 0 ≡ 0x22 → PlainToken s 1 (e + 1 - 1)
closed_told s e o h r q =
    let z : e ≡ e + 1 - 1 = omega arith in
    let w : e + 0 ≡ e = omega arith in
    subst (PlainToken s 1) z (record {
      style = Json;
      mark = opens_json s o;
      run = stopped Json s 1 e r (quote_stops s e h q);
      ends = get_or-drop e s 0 0 ∙ ap (λ (k : ℕ). get_or s k 0) w ∙ q;
    })

module _ (s : List ℕ) (st : Style) (k : ℕ) (o : opening s ≡ opens st k) where
  pub mark_fits : k ≤ length s
  mark_fits = let f : Marked s (opens st k) = rw o at (opening_fits s) in f.1

  token_units : read_token s ≡ read_units st k 0 (drop k s)
  unfolding read_token
  token_units = rw o (read_skip st k k s)

  module _ (e : ℕ) (ee : e ≡ k + literal_run st 0 (drop k s)) where
    pub plain_judged : get_or (drop e s) 0 0 ≡ quote st → Judged s (Ok (Plain k e))
    plain_judged q = record { so = record { style = st; mark = o; run = ee; ends = q } }

    module _ (r : Result Token Refused) (er : r ≡ token_of (read_units st k 0 (drop k s))) where
      told : r ≡ token_of (read_token s)
      told = er ∙ ap token_of (sym token_units)

      pub slashed_judged : (token : Token) → (get_or (drop e s) 0 0 ≡ quote st → ⊥) → r ≡ Ok token → Judged s (Ok (Slashed token.end token.len))
      slashed_judged token n f =
          record { so = record { style = st; from = k; mark = o; goes_on = λ z. n (ap (λ (i : ℕ). get_or (drop i s) 0 0) ee ∙ z); told = sym f ∙ told } }

      pub faulty_judged : (f : Refused) → r ≡ Err f → (u : Result Quoted Refused) → u ≡ Err f → Judged s u
      faulty_judged f q u g = subst (Judged s) (sym g) (record { so = sym q ∙ told })

module _ (s : List ℕ) (m : Option Mark) (em : opening_of m ≡ opening s) where
  pub mark_is : (k : Mark) → m ≡ Some k → opening s ≡ opens k.style k.len
  mark_is k q = sym em ∙ ap opening_of q

  pub mark_none : m ≡ None → opening s ≡ unopened
  mark_none q = sym em ∙ ap opening_of q

  pub unmarked_judged : m ≡ None → (f : Refused) → f ≡ refused_at no_opening 0 → Judged s (Err f)
  unfolding read_token
  unmarked_judged q f e = record { so = let u : opening s ≡ unopened = mark_none q in rw (u, e) }
