-- Each claim of specs/Claims.antt, by the laws of its topic.
-- Assumes nothing.
use Rattle.decimals.specs.Claims.{DecimalsDenote}
use Rattle.decimals.proofs.Decimals.{decimal_denotes}

pub decimals_denote : DecimalsDenote
decimals_denote = decimal_denotes
