-- Two uses of `and`. Behind the type of a `where type` an `and` may join another such type, and it may join another
-- binding to the phrase around: in `signature S = T where type t = int and U = V` it does the second. The lexeme
-- behind the `and` decides: where that isn't `type`, the `and` belongs to the phrase around. By then it has been
-- taken. So whatever may end with a signature expression says whether such an `and` was taken behind it, and the
-- bindings of the phrase around go on from there. Where the phrase around has no further bindings, nothing may stand
-- behind that `and`, and the lexeme behind it is refused.
use Rattle.std.specs.Prelude.{ℕ, Bool, true, false, not, ◌&&◌, max, ◌+◌, Option, None, Some, is_some, List, [], ◌∷◌}
use Rattle.grammars.specs.Grammar.{Grammar, ◌>>=◌, ◌>>◌}
use Rattle.grammars.specs.Grammar.Grammar.{pure, refuse, on, many, within}
use Rattle.sml_lexer.specs.declared.lexeme.Lexeme.{Lexeme}
use Rattle.sml_trees.specs.declared.name.Name.{Name}
use Rattle.phrase_reading.specs.Names.{begins_with_letter, either}
use Rattle.phrase_reading.specs.Sized.{part, over_two, one, more}
use Rattle.phrase_reading.specs.Words.{g, is, name_of, and_then, named, made, taken}
use Rattle.phrase_reading.specs.declared.tall.Tall.{Tall}
use Rattle.sml_lexer.specs.declared.words.Word.TheVariants as w
use Rattle.signature_parser.specs.declared.joined.Joined.{Joined}

-- ---- names of structures, signatures and functors

abbrev pub if_letter : Bool → List ℕ → Option (List ℕ)
if_letter true text = Some text
if_letter false text = None

abbrev pub module_name_text : List ℕ → Option (List ℕ)
module_name_text text = if_letter (begins_with_letter text) text

-- the name of a structure, signature or functor that a lexeme is, without structures before it: it is no symbol
abbrev pub module_name_of : Lexeme → Option (List ℕ)
module_name_of x = and_then module_name_text (name_of x)

abbrev pub is_module_name : Lexeme → Bool
is_module_name x = is_some (module_name_of x)

-- the name of a structure, signature or functor
abbrev pub module_name : g Name
module_name = taken module_name_of named

-- ---- phrases behind which an `and` of the phrase around was taken

-- a phrase behind which none was
abbrev pub apart : {A : Type 0} → Tall A → Joined A
apart made = record { made = made; joined = false }

-- something of the same levels that is no level itself
abbrev pub joined_part : {A B : Type 0} → (A → B) → Joined A → Joined B
joined_part wrap inner = record { made = part wrap inner.made; joined = inner.joined }

-- a tree one level above the higher of two, of which the second may have taken the `and`
abbrev pub joined_over : {A B C : Type 0} → (A → B → C) → Tall A → Joined B → Joined C
joined_over wrap left right = record { made = over_two wrap left right.made; joined = right.joined }

-- one part of several
abbrev pub joined_one : {A : Type 0} → Joined A → Joined (List A)
joined_one first = record { made = one first.made; joined = first.joined }

-- one more part
abbrev pub joined_more : {A : Type 0} → Joined (List A) → Joined A → Joined (List A)
joined_more found next = record { made = more found.made next.made; joined = next.joined }

-- The phrase around goes on without bindings: no `and` may have been taken.
abbrev pub alone_of : {A : Type 0} → Joined A → g (Tall A)
alone_of found = either found.joined refuse (pure found.made)

unfoldable pub alone : {A : Type 0} → g (Joined A) → g (Tall A)
alone each = each >>= alone_of

-- ---- bindings

-- whether another binding begins with this lexeme: with its name where the `and` was taken already, else with `and`
abbrev pub goes_on : Bool → Lexeme → Bool
goes_on true x = is_module_name x
goes_on false x = is w.And x

-- the name of another binding, of which the first lexeme was taken
abbrev pub next_name_after : Bool → Lexeme → g Name
next_name_after true x = made (named x) (module_name_of x)
next_name_after false x = module_name

-- another binding, of which the first lexeme was taken
unfoldable pub next_binding : {A : Type 0} → (Name → g (Joined A)) → Joined (List A) → Lexeme → g (Joined (List A))
next_binding each found x = do
  called ← next_name_after found.joined x
  next ← each called
  pure (joined_more found next)

-- further bindings, each behind its `and` and its name
unfoldable pub bindings_from : {A : Type 0} → (Name → g (Joined A)) → Joined (List A) → g (Joined (List A))
bindings_from each found = many (λ found x. goes_on found.joined x) (next_binding each) found

-- bindings joined by `and`: `each` is one of them behind its name
unfoldable pub bindings : {A : Type 0} → (Name → g (Joined A)) → g (Tall (List A))
bindings each = do
  called ← module_name
  first ← each called
  found ← bindings_from each (joined_one first)
  alone_of found
