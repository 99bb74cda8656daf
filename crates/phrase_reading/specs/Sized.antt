-- Trees with their height, which is the number of levels that they nest: a tree of one node has one level, and each
-- form with parts has one more than the highest of these.
use Rattle.std.specs.Prelude.{ℕ, ◌+◌, ◌++◌, max, Option, Some, None, List, [], ◌∷◌, nat_lt}
use Rattle.grammars.specs.Grammar.{Grammar, fold}
use Rattle.phrase_reading.specs.Words.{g, is}
use Rattle.sml_lexer.specs.declared.words.Word.{Word}
use Rattle.phrase_reading.specs.declared.tall.Tall.{Tall}

-- a tree of one level
abbrev pub leaf : {A : Type 0} → A → Tall A
leaf tree = record { tree = tree; height = 1 }

-- a tree one level above another
abbrev pub over : {A B : Type 0} → (A → B) → Tall A → Tall B
over wrap part = record { tree = wrap part.tree; height = part.height + 1 }

-- a tree one level above the higher of two
abbrev pub over_two : {A B C : Type 0} → (A → B → C) → Tall A → Tall B → Tall C
over_two wrap left right = record { tree = wrap left.tree right.tree; height = max left.height right.height + 1 }

-- something of the same levels that is no level itself, as a field of a record
abbrev pub part : {A B : Type 0} → (A → B) → Tall A → Tall B
part wrap inner = record { tree = wrap inner.tree; height = inner.height }

-- one part of several, whose height is the highest of theirs
abbrev pub one : {A : Type 0} → Tall A → Tall (List A)
one first = record { tree = first.tree ∷ []; height = first.height }

-- one more part
abbrev pub more : {A : Type 0} → Tall (List A) → Tall A → Tall (List A)
more found next = record { tree = found.tree ++ next.tree ∷ []; height = max found.height next.height }

-- such a part behind its mark, or nothing
unfoldable pub maybe : {A : Type 0} → Word → g (Tall A) → g (Tall (Option A))
maybe {A} mark each =
    Grammar.on (is mark) (λ _. Grammar.bind each (λ found. Grammar.pure (part (λ (tree : A). Some tree) found)))
    (Grammar.pure (record { tree = None; height = 0 }))

-- What is to become a part of something must leave a level for it: this stands behind the lexeme that shows that it
-- becomes one.
abbrev pub lower : {A B : Type 0} → ℕ → Tall A → g B → g B
lower levels left behind = Grammar.within (nat_lt left.height levels) behind

-- further parts, each behind such a mark
unfoldable pub further : {A : Type 0} → Word → g (Tall A) → Tall (List A) → g (Tall (List A))
further mark each found = fold (is mark) (λ _. each) more found

-- The lexeme before this opens a level, if one of so many is left.
abbrev pub opened : {A : Type 0} → ℕ → g A → g A
opened levels behind = Grammar.within (nat_lt 0 levels) behind
