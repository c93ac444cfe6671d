-- What judging a string tells, case by case.
-- Assumes nothing.
use Rattle.std.specs.Prelude.{Result, Ok, Err}
use Prim.Native.Nat.{ℕ}
use mathlib.Core.List.{List}
use mathlib.Core.Path.{◌≡◌, sym, ap, subst}
use lib.ListN.{length}
use Rattle.prelude.specs.declared.refusals.Refused.{Refused}
use Rattle.prelude.specs.Refusals.{refused_at}
use Rattle.prelude.proofs.Cases.{never}
use Rattle.strings.specs.declared.answers.Token.{Token}
use Rattle.strings.specs.Read.{StringRead, accepted, refused, read_token, token_of}
use Rattle.string_tokens.specs.declared.answers.Quoted.{Quoted}
use Rattle.string_tokens.specs.declared.answers.Quoted.TheVariants.{Plain, Slashed as SlashedAt}
use Rattle.string_tokens.specs.inner.Quotes.{ended_at, failed_at, PlainToken, SlashedToken, JudgedBy, Judged}

abbrev end_of : Result Token Refused → ℕ
end_of (Ok t) = t.end
end_of (Err f) = 0

abbrev size_of : Result Token Refused → ℕ
size_of (Ok t) = t.len
size_of (Err f) = 0

pub ended_is : (v : StringRead) (end count : ℕ) → ended_at end count ≡ token_of v → (bs : List ℕ) × ((v ≡ accepted bs end) × (length bs ≡ count))
ended_is (accepted bs e) end count h = (bs, (ap (accepted bs) (sym (ap end_of h)), sym (ap size_of h)))
ended_is (refused refusal p) end count h = never cc

pub failed_is : (v : StringRead) (f : Refused) → failed_at f ≡ token_of v → v ≡ refused f.refusal f.place
failed_is (accepted bs e) f h = never cc
failed_is (refused refusal p) f h = let z : f ≡ refused_at refusal p = cc in sym (ap (λ (g : Refused). refused g.refusal g.place) z)

pub judged_plain : {s : List ℕ} {r : Result Quoted Refused} {k e : ℕ} → Judged s r → r ≡ Ok (Plain k e) → PlainToken s k e
judged_plain {s} {r} {k} {e} h q = subst (JudgedBy s) q h.so

pub judged_slashed : {s : List ℕ} {r : Result Quoted Refused} {end count : ℕ} → Judged s r → r ≡ Ok (SlashedAt end count) → SlashedToken s end count
judged_slashed {s} {r} {end} {count} h q = subst (JudgedBy s) q h.so

pub judged_faulty : {s : List ℕ} {r : Result Quoted Refused} {f : Refused} → Judged s r → r ≡ Err f → failed_at f ≡ token_of (read_token s)
judged_faulty {s} {r} {f} h q = subst (JudgedBy s) q h.so
