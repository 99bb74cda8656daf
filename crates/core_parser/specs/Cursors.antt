-- Cursors: what is known at a place of a source, what scopes do to the infix status of names there, and what the
-- public calls that read a phrase answer and leave.
use Rattle.std.specs.Prelude.{◌≡◌, ℕ, ◌-◌, ◌++◌, ◌⊎◌, List, [], ◌∷◌, Option, None, Some, Result, Ok, Err, take, drop, length, slice_get}
use Rattle.cm_base.specs.Diags.{whole_file}
use Rattle.cm_base.specs.declared.diag.Diag.{Diag}
use Rattle.cm_base.specs.declared.fault.Fault.{Fault}
use Rattle.cm_base.specs.declared.fault.Fault.TheVariants as fault
use Rattle.sml_lexer.specs.declared.lexeme.Lexeme.{Lexeme}
use Rattle.sml_trees.specs.declared.full_exp.FullDec.{FullDec}
use Rattle.core_parser.specs.Answers.{Answers, AnswersDec}
use Rattle.infix_names.specs.Fixities.{Fixities, initial, left_over}
use Rattle.core_bindings.specs.Decs.{Decs}
use Rattle.phrase_reading.specs.Reads.{Reads}
use Rattle.core_bindings.specs.Decs.{ReadsDec}
use Rattle.phrase_reading.specs.Words.{g}
use Rattle.core_parser.specs.declared.cursor.Cursor.{Cursor}
use Rattle.core_parser.specs.declared.failure.Failure.{Failure}
use Rattle.core_parser.specs.declared.failure.Failure.TheVariants as why
use Rattle.core_parser.specs.declared.cursor.Scope.{Scope}
use Rattle.core_parser.specs.declared.parsing.Reading.{Reading}
use Rattle.phrase_reading.specs.declared.stop.Stop.{Stop}
use Rattle.phrase_reading.specs.declared.stop.Stop.TheVariants as stop
use Rattle.phrase_reading.specs.declared.tall.Tall.{Tall}

-- a place in a source, with what is known there
pub record CursorState : Type 0 where
  pub file : List ℕ
  -- all lexemes of the source, and those from the place on
  pub all : List Lexeme
  pub rest : List Lexeme
  -- the infix status of names, and the scopes that are open, the innermost last
  pub fixities : Fixities
  pub scopes : List Scope
  -- the levels that are open around the place
  pub nest : ℕ
  -- why the cursor has failed, if it has
  pub failed : Option Failure

-- what a cursor stands for
abbrev pub state : Cursor → CursorState
state c = record {
  file = c.file;
  all = c.lexemes;
  rest = drop c.taken c.lexemes;
  fixities = c.fixities;
  scopes = c.scopes.items;
  nest = c.nest;
  failed = c.failed;
}

-- a new cursor
abbrev pub at_first : List ℕ → List Lexeme → CursorState
at_first file lexemes = record {
  file = file;
  all = lexemes;
  rest = lexemes;
  fixities = initial;
  scopes = [];
  nest = 0;
  failed = None;
}

-- the same before these lexemes
abbrev pub before : List Lexeme → CursorState → CursorState
before rest c = record {
  file = c.file;
  all = c.all;
  rest = rest;
  fixities = c.fixities;
  scopes = c.scopes;
  nest = c.nest;
  failed = c.failed;
}

-- the same under so many open levels
abbrev pub under : ℕ → CursorState → CursorState
under levels c = record {
  file = c.file;
  all = c.all;
  rest = c.rest;
  fixities = c.fixities;
  scopes = c.scopes;
  nest = levels;
  failed = c.failed;
}

-- the same with this infix status in these scopes
abbrev pub scoped : Fixities → List Scope → CursorState → CursorState
scoped fs scopes c = record {
  file = c.file;
  all = c.all;
  rest = c.rest;
  fixities = fs;
  scopes = scopes;
  nest = c.nest;
  failed = c.failed;
}

-- ---- scopes

-- a scope that begins here
abbrev pub begun : Fixities → Scope
begun fs = record { start = length fs; kept = None }

-- the same scope with its mark here
abbrev pub marked : Scope → Fixities → Scope
marked scope fs = record { start = scope.start; kept = Some (length fs) }

abbrev pub closed_at : ℕ → Option ℕ → Fixities → Fixities
closed_at start None fs = take start fs
closed_at start (Some kept) fs = left_over start kept fs

-- what holds after a scope: what held before it, and what was declared in it behind the mark, if it has one
abbrev pub closed : Scope → Fixities → Fixities
closed scope fs = closed_at scope.start scope.kept fs

-- the innermost scope has ended
abbrev pub Closes : CursorState → CursorState → Type 0
Closes old now =
    (scope : Scope) × (old.scopes ≡ now.scopes ++ scope ∷ [])
    × (now ≡ scoped (closed scope old.fixities) now.scopes old)

-- the scopes with the mark of the innermost here
abbrev pub mark_last : Fixities → List Scope → List Scope
mark_last fs [] = []
mark_last fs (scope ∷ []) = marked scope fs ∷ []
mark_last fs (scope ∷ inner ∷ scopes) = scope ∷ mark_last fs (inner ∷ scopes)

-- ---- failing

-- a refusal at a place of a file
abbrev pub refused : List ℕ → ℕ → ℕ → Diag
refused file line col = record { number = 20; at = record { file = file; line = line; col = col }; names = [] }

-- what a cursor of a file answers that has failed so
abbrev pub fault_of : List ℕ → Failure → Fault
fault_of file (why.Refused line col) = fault.Diag (refused file line col)
fault_of file why.TooDeep = fault.Diag (whole_file 12 file)
fault_of file why.NoMemory = fault.NoMemory

abbrev pub refused_at : Option Lexeme → Failure
refused_at None = why.Refused 0 0
refused_at (Some x) = why.Refused x.line x.col

-- the place of a refusal before these lexemes: the first of them, or else the last of all
abbrev pub refused_before : List Lexeme → List Lexeme → Failure
refused_before all [] = refused_at (slice_get all (length all - 1))
refused_before all (x ∷ left) = why.Refused x.line x.col

-- why a cursor over these lexemes fails, where reading stops before those
abbrev pub failure_of : List Lexeme → Stop → List Lexeme → Failure
failure_of all stop.Refused left = refused_before all left
failure_of all stop.TooDeep left = why.TooDeep
failure_of all stop.NoMemory left = why.NoMemory

-- The cursor has failed: it stands past the last lexeme, and no scope is open.
pub record HasFailed (because : Failure) (old now : CursorState) : Type 0 where
  pub file : now.file ≡ old.file
  pub all : now.all ≡ old.all
  pub rest : now.rest ≡ []
  pub scopes : now.scopes ≡ []
  pub nest : now.nest ≡ old.nest
  pub failed : now.failed ≡ Some because

-- this fault, or want of memory to make it
abbrev pub IsFault : Fault → Fault → Type 0
IsFault wanted given = (given ≡ wanted) ⊎ (given ≡ fault.NoMemory)

-- the cursor has failed, and this is what it answers from now on
abbrev pub FailsWith : Fault → CursorState → CursorState → Type 0
FailsWith fault old now = (because : Failure) × HasFailed because old now × (fault ≡ fault_of old.file because)

-- why a cursor has failed that answers this, where it would be that failure with memory enough
abbrev pub because : Fault → Failure → Failure
because (fault.Diag diag) failure = failure
because fault.NoMemory failure = why.NoMemory

-- the cursor fails where reading stopped before these lexemes
abbrev pub FailsBefore : Stop → List Lexeme → CursorState → Fault → CursorState → Type 0
FailsBefore stopped left old fault now =
    (failure : Failure) × HasFailed failure old now × (fault ≡ fault_of old.file failure)
    × ((failure ≡ failure_of old.all stopped left) ⊎ (failure ≡ why.NoMemory))

-- ---- the calls that read a phrase

-- the reading went from a place in these lexemes to another
abbrev pub ReadsFrom : {A : Type 0} → g (Tall A) → List Lexeme → ℕ → Reading A → Type 0
ReadsFrom grammar all taken reading =
    Reads grammar (drop taken all) reading.made (drop reading.taken all)

-- what a call makes of what was read before these lexemes
abbrev pub Settles : {A : Type 0} → Result (Tall A) Stop → List Lexeme → CursorState → Result A Fault → CursorState
    → Type 0
Settles (Ok made) left old result now = (result ≡ Ok made.tree) × (now ≡ before left old)
Settles (Err stopped) left old result now =
    (fault : Fault) × (result ≡ Err fault) × FailsBefore stopped left old fault now

-- what a call answers that failed already: that fault again
abbrev pub FailsAgain : {A : Type 0} → Fault → Result A Fault → Type 0
FailsAgain wanted (Ok tree) = ⊥
FailsAgain wanted (Err fault) = IsFault wanted fault

-- the answer is that of the grammar at the cursor's place, and after a phrase the cursor stands behind it
abbrev pub ParsesHere : {A : Type 0} → g (Tall A) → CursorState → Result A Fault → CursorState → Type 0
ParsesHere grammar old (Ok tree) now =
    Answers grammar old.file old.all old.rest (Ok tree) now.rest × (now ≡ before now.rest old)
ParsesHere grammar old (Err fault) now =
    Answers grammar old.file old.all old.rest (Err fault) [] × FailsWith fault old now

abbrev pub ParsesUnless : {A : Type 0} → Option Failure → g (Tall A) → CursorState → Result A Fault → CursorState
    → Type 0
ParsesUnless None grammar old result now = ParsesHere grammar old result now
ParsesUnless (Some because) grammar old result now = FailsAgain (fault_of old.file because) result × (now ≡ old)

-- What a public call answers and leaves that reads a phrase, of which 128 levels may be open with those around it.
abbrev pub Parses : {A : Type 0} → (ℕ → Fixities → g (Tall A)) → CursorState → Result A Fault → CursorState → Type 0
Parses grammar old result now = ParsesUnless old.failed (grammar (128 - old.nest) old.fixities) old result now

-- ---- the call that reads a declaration, which leaves the infix status behind it

-- the reading went from a place in these lexemes to another, behind which names bind so
abbrev pub ReadsDecFrom : g (Decs FullDec) → List Lexeme → ℕ → Reading FullDec → Fixities → Type 0
ReadsDecFrom grammar all taken reading fs =
    ReadsDec grammar (drop taken all) reading.made fs (drop reading.taken all)

abbrev pub ParsesDecHere : g (Decs FullDec) → CursorState → Result FullDec Fault → CursorState → Type 0
ParsesDecHere grammar old (Ok dec) now =
    AnswersDec grammar old.file old.all old.rest (Ok dec) now.fixities now.rest
    × (now ≡ before now.rest (scoped now.fixities old.scopes old))
ParsesDecHere grammar old (Err fault) now =
    AnswersDec grammar old.file old.all old.rest (Err fault) [] [] × FailsWith fault old now

abbrev pub ParsesDecUnless : Option Failure → g (Decs FullDec) → CursorState → Result FullDec Fault → CursorState → Type 0
ParsesDecUnless None grammar old result now = ParsesDecHere grammar old result now
ParsesDecUnless (Some because) grammar old result now =
    FailsAgain (fault_of old.file because) result × (now ≡ old)

-- what the call answers and leaves that reads a declaration
abbrev pub ParsesDec : (ℕ → Fixities → g (Decs FullDec)) → CursorState → Result FullDec Fault → CursorState → Type 0
ParsesDec grammar old result now =
    ParsesDecUnless old.failed (grammar (128 - old.nest) old.fixities) old result now
