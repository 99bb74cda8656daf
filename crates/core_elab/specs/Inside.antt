-- A declaration that is entered into its scope, and the phrase that stands behind it there. Only private functions cite
-- this file.
use Rattle.std.specs.Prelude.{◌≡◌, length, Bool, true, false, Result, Ok, Err, IfOk}
use Rattle.cm_base.specs.declared.fault.Fault.{Fault}
use Rattle.bare_phrases.specs.Phrases.{ExpPhrase, DecPhrase}
use Rattle.core_scopes.specs.declared.made.Made.{Made}
use Rattle.core_scopes.specs.Marks.{IsFrontOf}
use Rattle.pattern_elab.specs.declared.own.OwnVariable.{OwnVariable}
use Rattle.value_closing.specs.Under.{IsUnder}
use Rattle.core_rules.specs.Moments.{Moment, moment}
use Rattle.core_rules.specs.Ready.{made_at}
use Rattle.core_rules.specs.Expressions.{IsExp}
use Rattle.core_rules.specs.Declarations.{IsDeclared, IsDeclaredBehind, IsBehind}
use Rattle.core_rules.specs.Joined.{made_where}
use Rattle.core_elab.specs.declared.exp.LetBody.{LetBody}

-- a declaration is an `open`
abbrev pub is_open : DecPhrase → Bool
is_open (DecPhrase.Open longs at) = true
is_open _ = false

-- what a declaration makes stands in scope, and marks of the scope before stay good; with that scope left, the answer is
-- that of a call that leaves it
pub record Enters (old : Moment) (phrase : DecPhrase) (all : Made OwnVariable) (new : Moment)
    (result : Result (Unit {0}) Fault) : Type 0 where
  pub declares : IsDeclared old phrase (moment new.graph new.table old.scope) (made_where all result)
  pub under : IfOk result (λ (u : Unit {0}). IsUnder new.graph new.table (made_at new all) old.scope new.scope)
  pub front : IsFrontOf old.scope new.scope

-- the declaration of a `let`, and its body under what that made
pub record IsLetBody (old : Moment) (dec : DecPhrase) (body : ExpPhrase) (new : Moment) (inside : LetBody) :
    Type 0 where
  pub made : Made OwnVariable
  pub between : Moment
  pub declares : IsDeclared old dec between (Ok made)
  pub behind : IsBehind between made body new (Ok inside.id)
  pub numbers : inside.to ≡ length between.graph.made

-- of a phrase that is one
abbrev pub IsBody : Moment → ExpPhrase → Moment → LetBody → Type 0
IsBody old (ExpPhrase.Let dec body at) new inside = IsLetBody old dec body new inside
IsBody old _ new inside = ⊥

-- .. or what the whole `let` is refused with
abbrev pub AnswersBody : Moment → ExpPhrase → Moment → Result LetBody Fault → Type 0
AnswersBody old phrase new (Ok inside) = IsBody old phrase new inside
AnswersBody old phrase new (Err e) = IsExp old phrase new (Err e)

-- .. in a scope that isn't left yet
pub record IsInside (old : Moment) (phrase : ExpPhrase) (new : Moment) (result : Result LetBody Fault) : Type 0 where
  pub answers : AnswersBody old phrase (moment new.graph new.table old.scope) result
  pub front : IsFrontOf old.scope new.scope

-- the hidden declaration of a `local`, and the shown one under what it made
pub record IsShownBehind (old : Moment) (hidden shown : DecPhrase) (new : Moment) (more : Made OwnVariable) :
    Type 0 where
  pub made : Made OwnVariable
  pub between : Moment
  pub declares : IsDeclared old hidden between (Ok made)
  pub behind : IsDeclaredBehind between made shown new (Ok more)

-- of a phrase that is one
abbrev pub IsLocal : Moment → DecPhrase → Moment → Made OwnVariable → Type 0
IsLocal old (DecPhrase.Local hidden shown at) new more = IsShownBehind old hidden shown new more
IsLocal old _ new more = ⊥

-- .. or what the whole `local` is refused with
abbrev pub AnswersShown : Moment → DecPhrase → Moment → Result (Made OwnVariable) Fault → Type 0
AnswersShown old phrase new (Ok more) = IsLocal old phrase new more
AnswersShown old phrase new (Err e) = IsDeclared old phrase new (Err e)

-- .. in a scope that isn't left yet
pub record IsShown (old : Moment) (phrase : DecPhrase) (new : Moment) (result : Result (Made OwnVariable) Fault) :
    Type 0 where
  pub answers : AnswersShown old phrase (moment new.graph new.table old.scope) result
  pub front : IsFrontOf old.scope new.scope
