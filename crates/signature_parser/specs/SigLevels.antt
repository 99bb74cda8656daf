-- The knot of signatures and specifications: the phrases that nest at most so many levels, over those of one level
-- less.
use Rattle.std.specs.Prelude.{ℕ, zero, suc}
use Rattle.grammars.specs.Grammar.Grammar.{refuse}
use Rattle.signature_parser.specs.Signatures.{SigLevel, sig_of}
use Rattle.signature_parser.specs.Specifications.{specs_of}

abbrev pub sig_level_of : ℕ → SigLevel → SigLevel
sig_level_of n parts = record {
  sig = sig_of n parts;
  specs = specs_of n parts;
}

-- Nothing is read where no level is left: the lexeme before it opens one too many.
abbrev pub no_sig_level : SigLevel
no_sig_level = record {
  sig = refuse;
  specs = refuse;
}

-- the phrases of one level less than so many
unfoldable pub sig_below : ℕ → SigLevel
sig_below zero = no_sig_level
sig_below (suc n) = sig_level_of n (sig_below n)

-- the phrases that nest at most so many levels
abbrev pub sig_level : ℕ → SigLevel
sig_level n = sig_level_of n (sig_below n)
