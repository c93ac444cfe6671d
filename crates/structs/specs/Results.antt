-- What the C functions return, in the words of include/j8.h: "number 0: done; place is 0, and length is the length of the result.
-- Otherwise number is the refusal and place its place; length is 0."
-- Assumes nothing.
use Rattle.std.specs.Prelude.{ℕ, Result, Ok, Err}
use Rattle.prelude.specs.declared.refusals.Refusal.{Refusal}
use Rattle.prelude.specs.declared.refusals.Refused.{Refused}
use Rattle.prelude.specs.Refusals.{number_of}
use Rattle.structs.specs.declared.results.J8Result.{J8Result}

abbrev pub done : ℕ → J8Result
done n = record { number = 0; place = 0; length = n }

-- a refusal by its number, whatever that is
abbrev pub numbered : ℕ → ℕ → J8Result
numbered number place = record { number = number; place = place; length = 0 }

abbrev pub refusal : Refusal → ℕ → J8Result
refusal r place = record { number = number_of r; place = place; length = 0 }

-- a string read
abbrev pub decoded_result : Result ℕ Refused → J8Result
decoded_result (Ok n) = done n
decoded_result (Err f) = refusal f.refusal f.place

-- a string, records as lines or a table written
abbrev pub written_result : Result ℕ Refusal → J8Result
written_result (Ok n) = done n
written_result (Err r) = refusal r 0
