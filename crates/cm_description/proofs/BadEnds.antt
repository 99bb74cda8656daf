-- What is wrong with the directive at which a reading ends.
use Rattle.std.proofs.Common.{inl, inr, ℕ, List, Option, sym, ◌∙◌, subst, ◌≤◌, length, length-append, arith}
use Rattle.cm_base.specs.declared.diag.Diag.{Diag}
use Rattle.grammars.specs.Grammar.{End, Ends}
use Rattle.cm_lexer.specs.Spelling.{slice_of}
use Rattle.cm_lexer.specs.declared.token.Token.{Token}
use Rattle.cm_description.specs.Answers.{IsBadDirective, EndsBadly}
use Rattle.cm_description.specs.Grammar.{description}
use Rattle.cm_description.specs.Seen.{ShowsBad, ShowsEnd}
use Rattle.cm_description.specs.Words.{directive_at}
use Rattle.cm_description.proofs.Conditions.{condition_some}
use Rattle.cm_description.proofs.OneAnswer.{ends_once}
use Rattle.cm_description.proofs.Sinks.{EndsAtBad, deep_sunk, asks_for_module}

bad_directive : (file text : List ℕ) (ys : List Token) (end : EndsAtBad file text ys) (diag : Diag)
    → ShowsBad file text end.directive end.rest diag → IsBadDirective file text end.before end.directive end.rest diag
bad_directive file text ys end diag (inl refused) = inl refused
bad_directive file text ys end diag (inr (cond, reads, is)) =
    let asks = asks_for_module end.modules (directive_at text end.directive) (slice_of text end.rest) cond
    (condition_some (slice_of text end.rest) cond reads) end.bad in
    inr (cond, reads, asks.1, end.inside asks.0, is)

-- the tokens up to a level too many end with a directive that may not stand there
pub bad_end : (file text : List ℕ) (ys : List Token) (next : Option Token) (diag : Diag)
    → Ends (description file text) End.deep ys next → ShowsEnd file text ys diag → EndsBadly file text ys diag
bad_end file text ys next diag deep (x, r, (before, split), shown) =
    let end = deep_sunk file text ys next deep in
    let same = ends_once before end.before x r end.directive end.rest (sym split ∙ end.split) in (
      end.before,
      end.directive,
      end.rest,
      end.split,
      bad_directive file text ys end diag
          (subst (λ (t : Token). ShowsBad file text end.directive t diag) same.2
          (subst (λ (t : Token). ShowsBad file text t r diag) same.1 shown)),
    )

-- so there are two of them at least
pub two_at_end : (file text : List ℕ) (ys : List Token) (next : Option Token)
    → Ends (description file text) End.deep ys next
    → 2 ≤ length ys
two_at_end file text ys next deep =
    let end = deep_sunk file text ys next deep in rw (end.split, length-append) (omega arith)
