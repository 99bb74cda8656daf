-- Heads of clauses as the grammar prints them (The Definition of Standard ML, appendix B, the form of fvalbind and its
-- note):
--
--     head = [ "op" ] vid atpat { atpat }
--          | atpat vid atpat
--          | "(" atpat vid atpat ")" { atpat }
--
-- In the first form a vid that is infix has `op` before it; in the other two the vid is infix, and the parentheses may
-- be dropped where a `:` or a `=` stands behind the second pattern. Each form is a relation between lexemes, the lexeme
-- behind them if there is one, and the tree that they are. Nothing here says how a reader tells the forms apart.
use Rattle.std.specs.Prelude.{◌≡◌, ◌⊎◌, ◌<◌, ℕ, Option, Some, List, [], ◌∷◌, ◌++◌, length, Bool, true, false, is_some}
use Rattle.grammars.specs.Grammar.{Phrase, head_or, ◌>>=◌}
use Rattle.sml_lexer.specs.declared.lexeme.Lexeme.{Lexeme}
use Rattle.sml_trees.specs.declared.full_exp.FullHead.{FullHead}
use Rattle.sml_trees.specs.declared.full_exp.FullHead.TheVariants as h
use Rattle.sml_trees.specs.declared.full_pat.FullPat.{FullPat}
use Rattle.sml_trees.specs.declared.full_ty.OpName.{OpName}
use Rattle.sml_trees.specs.declared.name.Name.{Name}
use Rattle.infix_names.specs.Fixities.{Fixities, fixity_of}
use Rattle.core_patterns.specs.Patterns.{atpat}
use Rattle.phrase_reading.specs.Names.{beginning}
use Rattle.phrase_reading.specs.Words.{g, is, name_of, named}
use Rattle.phrase_reading.specs.declared.tall.Tall.{Tall}
use Rattle.sml_lexer.specs.declared.words.Word.TheVariants as w
use Rattle.clause_heads.specs.Heads.{starts_head, head_after, wanted_by}
use Rattle.clause_heads.specs.declared.heads.Wanted.{Wanted}
use Rattle.clause_heads.specs.declared.heads.Wanted.TheVariants as wanted

-- ---- parts of heads

-- the lexemes, before that one, are a phrase of the grammar with this tree, of whatever height
abbrev pub IsTree : {A : Type 0} → g (Tall A) → List Lexeme → Option Lexeme → A → Type 0
IsTree grammar lexemes next tree = (height : ℕ) × Phrase grammar lexemes next (record { tree = tree; height = height })

-- atpat: an atomic pattern of at most so many levels
abbrev pub IsAtpat : ℕ → Fixities → List Lexeme → Option Lexeme → FullPat → Type 0
IsAtpat most fs lexemes next pat = IsTree (atpat fs most) lexemes next pat

-- { atpat }: such patterns, one behind the other
abbrev pub AreAtpats : ℕ → Fixities → List Lexeme → Option Lexeme → List FullPat → Type 0
AreAtpats most fs lexemes next [] = lexemes ≡ []
AreAtpats most fs lexemes next (pat ∷ pats) =
    (ys zs : List Lexeme) × (lexemes ≡ ys ++ zs) × IsAtpat most fs ys (head_or zs next) pat
    × AreAtpats most fs zs next pats

-- vid: a name without structures before it
abbrev pub IsVid : Lexeme → Name → Type 0
IsVid x called = (name_of x ≡ Some called.text) × (called ≡ named x called.text)

-- .. that is infix
abbrev pub is_infix : Fixities → Name → Bool
is_infix fs called = is_some (fixity_of fs called.text)

-- [ "op" ] vid: one that is infix has `op` before it
abbrev pub IsCalled : Fixities → List Lexeme → OpName → Type 0
IsCalled fs (x ∷ []) called = (called.op ≡ false) × IsVid x called.name × (is_infix fs called.name ≡ false)
IsCalled fs (op ∷ x ∷ []) called = (called.op ≡ true) × (is w.Op op ≡ true) × IsVid x called.name
IsCalled fs _ called = ⊥

-- ---- the three forms

-- [ "op" ] vid atpat { atpat }
abbrev pub IsPrefix : ℕ → Fixities → List Lexeme → Option Lexeme → OpName → List FullPat → Type 0
IsPrefix most fs lexemes next called args =
    (ys zs : List Lexeme) × (lexemes ≡ ys ++ zs) × IsCalled fs ys called × AreAtpats most fs zs next args
    × (0 < length args)

-- atpat vid atpat
abbrev pub IsInfix : ℕ → Fixities → List Lexeme → Option Lexeme → FullPat → Name → FullPat → Type 0
IsInfix most fs lexemes next left called right =
    (ys : List Lexeme) × (x : Lexeme) × (zs : List Lexeme) × (lexemes ≡ ys ++ x ∷ zs) × IsAtpat most fs ys (Some x) left
    × IsVid x called × (is_infix fs called ≡ true) × IsAtpat most fs zs next right

-- "(" atpat vid atpat ")" { atpat }
abbrev pub IsParenInfix : ℕ → Fixities → List Lexeme → Option Lexeme → FullPat → Name → FullPat → List FullPat → Type 0
IsParenInfix most fs lexemes next left called right args =
    (opening : Lexeme) × (ys : List Lexeme) × (closing : Lexeme) × (zs : List Lexeme)
    × (lexemes ≡ opening ∷ (ys ++ closing ∷ zs)) × (is w.Open opening ≡ true)
    × IsInfix most fs ys (Some closing) left called right × (is w.Close closing ≡ true)
    × AreAtpats most fs zs next args

-- a head whose patterns nest at most so many levels each: a head is no level itself
abbrev pub IsHead : ℕ → Fixities → List Lexeme → Option Lexeme → FullHead → Type 0
IsHead most fs lexemes next (h.Prefix called args) = IsPrefix most fs lexemes next called args
IsHead most fs lexemes next (h.Infix left called right) = IsInfix most fs lexemes next left called right
IsHead most fs lexemes next (h.ParenInfix left called right args) =
    IsParenInfix most fs lexemes next left called right args

-- ---- what stands around a head

-- a head that the clauses before ask for: of a first one nothing, and of the others its name and number of arguments
abbrev pub IsAsked : Wanted → FullHead → Type 0
IsAsked wanted.Any head = Unit {0}
IsAsked (wanted.Same name args) head = wanted_by head ≡ wanted.Same name args

-- each clause before has an argument
abbrev pub AsksForSome : Wanted → Type 0
AsksForSome wanted.Any = Unit {0}
AsksForSome (wanted.Same name args) = 0 < args

-- what stands behind a head: a `:` or a `=`
abbrev pub IsBehindHead : Lexeme → Type 0
IsBehindHead x = (is w.Colon x ≡ true) ⊎ (is w.Equals x ≡ true)

-- a head as a clause begins with it
abbrev pub head : ℕ → Fixities → Wanted → g (Tall FullHead)
head most fs wanted = beginning (starts_head fs wanted) >>= head_after most fs wanted
