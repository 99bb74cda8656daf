-- Each head that the grammar has is one of the three forms, and all clauses of a function are alike.
use Rattle.std.proofs.Common.{◌≡◌, ◌⊎◌, inl, inr, ℕ, ◌+◌, ◌-◌, ◌<◌, max, length, map, List, [], ◌∷◌, ◌++◌, Option, None, Some, Bool, true, false, not, ◌||◌, ◌&&◌, ◌==◌, if◌then◌else◌, nat_lt, refl, sym, ap, ap₂, subst, arith, rules}
use Rattle.std.proofs.lemmas.Bool.{eqb-true}
use Rattle.std.proofs.lemmas.List.{map-append}
use Rattle.std.proofs.lemmas.List.Elements.{All-nil, All-cons, All-push, All-same}
use Rattle.std.proofs.lemmas.Slice.Eq.{bytes_eq-Decides}
use Rattle.std.specs.Prelude.{All}
use Rattle.std.specs.Str.{bytes_eq}
use Rattle.sml_lexer.specs.declared.lexeme.Lexeme.{Lexeme}
use Rattle.sml_lexer.specs.declared.lexeme.LexemeKind.{LexemeKind}
use Rattle.sml_lexer.specs.declared.lexeme.LexemeKind.TheVariants as k
use Rattle.sml_trees.specs.declared.full_exp.FullClause.{FullClause, out-roll-FullClause}
use Rattle.sml_trees.specs.declared.full_exp.FullFunBind.{out-FullFunBind, out-roll-FullFunBind}
use Rattle.sml_trees.specs.declared.full_exp.FullHead.{FullHead}
use Rattle.sml_trees.specs.declared.full_exp.FullHead.TheVariants as h
use Rattle.sml_trees.specs.declared.full_pat.Fixity.{Fixity}
use Rattle.sml_trees.specs.declared.full_pat.FullPat.{FullPat}
use Rattle.sml_trees.specs.declared.full_ty.OpName.{OpName}
use Rattle.sml_trees.specs.declared.name.At.{At}
use Rattle.sml_trees.specs.declared.name.LongName.{LongName}
use Rattle.sml_trees.specs.declared.name.Name.{Name}
use Rattle.core_patterns.specs.declared.operand.Run.{Run}
use Rattle.core_patterns.specs.Patterns.{operand_height, start}
use Rattle.core_expressions.specs.Clauses.{clause_of, clause, fun_bind, function_by, function_from, function_of, function}
use Rattle.core_expressions.specs.Level.{Level}
use Rattle.core_expressions.specs.Levels.{level}
use Rattle.infix_names.specs.Fixities.{Fixities, fixity_of}
use Rattle.phrase_reading.specs.Names.{if_taken}
use Rattle.phrase_reading.specs.Sized.{one, more, further}
use Rattle.phrase_reading.specs.Words.{g, at, named, long_named, name_of, only, and_then, made, taken}
use Rattle.sml_lexer.specs.Words.{word_of}
use Rattle.phrase_reading.specs.declared.tall.Tall.{Tall}
use Rattle.sml_lexer.specs.declared.words.Word.{Word}
use Rattle.sml_lexer.specs.declared.words.Word.TheVariants as w
use Rattle.clause_heads.specs.Heads.{may_be, may_end, may_be_bare, wanted_by, if_infix, operator_in, bare_operator, if_prefix, prefix_name, infix_head, infix_from, atom_head, arguments, prefix_head, long_head, short_head, named_head_by, op_head, too_high, closed_head, pair_run, pair_arguments, pair_left, pair_head, pair_pattern, pair_behind, pair_from, pair_of, parens_pattern, is_named, parens_behind, parens_from, parens_some, unit_head, parens_head, head_word, head_kind, head_after}
use Rattle.clause_heads.specs.declared.heads.Wanted.{Wanted}
use Rattle.clause_heads.specs.declared.heads.Wanted.TheVariants as wanted
use Rattle.clause_heads.specs.declared.paren_head.Left.{Left}
use Rattle.clause_heads.specs.declared.paren_head.Pair.{Pair}
use Rattle.level_laws.proofs.Keeping.{Keeps, keep_pure, keep_refuse, keep_bind, keep_then, keep_on, keep_within, keep_many, keep_none, keep_if_mark, keep_either}
use Rattle.clause_laws.specs.Forms.{is_infix, IsHead, IsWanted, head_of, IsClauseHead, IsFunction}
use Rattle.clause_laws.specs.Promises.{HeadsHaveTheirForms, ClausesAreOfOneFunction}

-- ---- what tests tell

if_some : {A : Type 0} (b : Bool) (x y : A) → (if b then Some x else None) ≡ Some y → (b ≡ true) × (x ≡ y)
if_some {A} true x y h = (refl, cc)
if_some {A} false x y h = absurd (cc)

if_other : {A : Type 0} (b : Bool) (x : Option A) (y : A) → (if b then x else None) ≡ Some y → (b ≡ true) × (x ≡ Some y)
if_other true x y h = (refl, h)
if_other {A} false x y h = absurd (cc)

both : (a b : Bool) → (a && b) ≡ true → (a ≡ true) × (b ≡ true)
both true b h = (refl, h)
both false b h = absurd (cc)

one_of : (a b : Bool) → (a || not b) ≡ true → (a ≡ true) ⊎ (b ≡ false)
one_of true b h = inl refl
one_of false true h = absurd (cc)
one_of false false h = inr refl

then_some : {A B : Type 0} (f : A → Option B) (found : Option A) (b : B) → and_then f found ≡ Some b
    → (a : A) × (f a ≡ Some b)
then_some {A} {B} f None b h = absurd (cc)
then_some f (Some a) b h = (a, h)

-- ---- lexemes of which something is known

keep_made_by : {A B : Type 0} (make : A → B) {P : B → Type 0} (found : Option A)
    → ((a : A) → found ≡ Some a → P (make a))
    → Keeps (made make found) P
keep_made_by make None each = keep_refuse
keep_made_by make (Some a) each = keep_pure (make a) (each a refl)

keep_taken_by : {A B : Type 0} (what : Lexeme → Option A) (make : Lexeme → A → B) {P : B → Type 0}
    → ((x : Lexeme) (a : A) → what x ≡ Some a → P (make x a)) → Keeps (taken what make) P
unfolding taken
keep_taken_by what make each = keep_on (λ x. keep_made_by (make x) (what x) (each x)) keep_refuse

keep_if_taken_by : {A B C : Type 0} (what : Lexeme → Option A) (make : Lexeme → A → B) {go : B → g C} {or : g C}
    (P : B → Type 0) {Q : C → Type 0} → ((x : Lexeme) (a : A) → what x ≡ Some a → P (make x a))
    → ((b : B) → P b → Keeps (go b) Q) → Keeps or Q → Keeps (if_taken what make go or) Q
unfolding if_taken
keep_if_taken_by what make P each first second =
    keep_on (λ x. keep_bind (keep_made_by (make x) {P = P} (what x) (each x)) first) second

-- ---- names in heads

-- a name that is infix, where the clause may be one of that name
record IsOperator (fs : Fixities) (wanted : Wanted) (text : List ℕ) : Type 0 where
  infix_here : is_infix fs text ≡ true
  may : may_be wanted text ≡ true

operator_is : (fs : Fixities) (wanted : Wanted) (x : Lexeme) (text : List ℕ) → operator_in fs wanted x ≡ Some text
    → IsOperator fs wanted text
operator_is fs wanted x text h =
    let found = then_some (if_infix fs wanted) (name_of x) text h in
    let so = if_some (is_infix fs found.0 && may_be wanted found.0) found.0 text found.1 in
    let tests = both (is_infix fs found.0) (may_be wanted found.0) so.0 in
    subst (IsOperator fs wanted) so.1 (record { infix_here = tests.0; may = tests.1 })

-- .. where it may stand between two patterns alone
record IsBare (fs : Fixities) (wanted : Wanted) (called : Name) : Type 0 where
  alone : may_be_bare fs wanted ≡ true
  operator : IsOperator fs wanted called.text

bare_is : (fs : Fixities) (wanted : Wanted) (x : Lexeme) (text : List ℕ) → bare_operator fs wanted x ≡ Some text
    → IsBare fs wanted (named x text)
bare_is fs wanted x text h =
    let so = if_other (may_be_bare fs wanted) (operator_in fs wanted x) text h in
    record { alone = so.0; operator = operator_is fs wanted x text so.1 }

-- the name that a head of the first form begins with
record IsPrefix (fs : Fixities) (wanted : Wanted) (op : Bool) (text : List ℕ) : Type 0 where
  form : (op ≡ true) ⊎ (is_infix fs text ≡ false)
  may : may_be wanted text ≡ true

prefix_is : (fs : Fixities) (wanted : Wanted) (op : Bool) (parts : List (List ℕ)) (text : List ℕ)
    → prefix_name fs wanted op parts ≡ Some text → IsPrefix fs wanted op text
prefix_is fs wanted op parts text h =
    let found = then_some (if_prefix fs wanted op) (only parts) text h in
    let so = if_some ((op || not (is_infix fs found.0)) && may_be wanted found.0) found.0 text found.1 in
    let tests = both (op || not (is_infix fs found.0)) (may_be wanted found.0) so.0 in
    subst (IsPrefix fs wanted op) so.1 (record { form = one_of op (is_infix fs found.0) tests.0; may = tests.1 })

-- ---- what is asked for

same_text : (name text : List ℕ) → bytes_eq name text ≡ true → text ≡ name
same_text name text h = sym ((bytes_eq-Decides name text).0 h)

infix_wanted : (fs : Fixities) (wanted : Wanted) (left right : FullPat) (called : Name) → IsBare fs wanted called
    → IsWanted wanted (h.Infix left called right)
infix_wanted fs wanted.Any left right called it = tt
infix_wanted fs (wanted.Same name args) left right called it =
    let one = (both (args == 1) (is_infix fs name) it.alone).0 in
    ap₂ wanted.Same (same_text name called.text it.operator.may) (sym (eqb-true args 1 one))

prefix_wanted : (fs : Fixities) (wanted : Wanted) (called : OpName) (args : List FullPat)
    → may_be wanted called.name.text ≡ true → may_end wanted (0 + length args) ≡ true
    → IsWanted wanted (h.Prefix called args)
prefix_wanted fs wanted.Any called args may ends = search rules
prefix_wanted fs (wanted.Same name count) called args may ends =
    let same : 0 + length args ≡ count = eqb-true (0 + length args) count ends in
    ap₂ wanted.Same (same_text name called.name.text may) (omega (arith, same))

paren_wanted : (wanted : Wanted) (left right : FullPat) (called : Name) (args : List FullPat)
    → may_be wanted called.text ≡ true → may_end wanted (1 + length args) ≡ true
    → IsWanted wanted (h.ParenInfix left called right args)
paren_wanted wanted.Any left right called args may ends = tt
paren_wanted (wanted.Same name count) left right called args may ends =
    ap₂ wanted.Same (same_text name called.text may) (eqb-true (1 + length args) count ends)

-- ---- heads

-- one of the three forms that is asked for
abbrev pub HeadIs : Fixities → Wanted → Tall FullHead → Type 0
HeadIs fs wanted made = IsHead fs made.tree × IsWanted wanted made.tree

module _ (n : ℕ) (fs : Fixities) (wanted : Wanted) where
  infix_keeps : (left : Tall FullPat) (called : Name) → IsBare fs wanted called
      → Keeps (infix_head n fs left called) (HeadIs fs wanted)
  unfolding infix_head
  infix_keeps left called it =
      keep_then (λ right. keep_pure _ (it.operator.infix_here, infix_wanted fs wanted left.tree right.tree called it))

  from_keeps : (left : Tall FullPat) → Keeps (infix_from n fs wanted left) (HeadIs fs wanted)
  unfolding infix_from
  from_keeps left =
      keep_bind (keep_taken_by (bare_operator fs wanted) named {P = IsBare fs wanted} (bare_is fs wanted)) (λ called it.
      infix_keeps left called it)

  arguments_keep : (before : ℕ)
      → Keeps (arguments n fs wanted before) (λ args. may_end wanted (before + length args.tree) ≡ true)
  unfolding arguments
  arguments_keep before =
      keep_then (λ found. keep_either (may_end wanted (before + length found.tree)) (λ ends. keep_pure found ends) keep_refuse)

  prefix_keeps : (op : Bool) (called : Name) → IsPrefix fs wanted op called.text
      → Keeps (prefix_head n fs wanted (record { op = op; name = called })) (HeadIs fs wanted)
  unfolding prefix_head
  prefix_keeps op called it =
      keep_bind (arguments_keep 0) (λ args ends. keep_pure _ (
        it.form,
        prefix_wanted fs wanted (record { op = op; name = called }) args.tree it.may ends,
      ))

  named_keeps : (op : Bool) (start : At) (long : LongName) (found : Option (List ℕ))
      → prefix_name fs wanted op long.parts ≡ found → Keeps (named_head_by n fs wanted op start long found) (HeadIs fs wanted)
  unfolding long_head short_head
  named_keeps op start long None so = keep_within (λ _. from_keeps _)
  named_keeps op start long (Some text) so =
      keep_if_taken_by (bare_operator fs wanted) named (IsBare fs wanted) (bare_is fs wanted)
      (λ called it. keep_within (λ _. infix_keeps _ called it))
      (prefix_keeps op _ (prefix_is fs wanted op long.parts text so))

  high_keeps : {P : Tall FullHead → Type 0} (run : Run) (named : Bool) → Keeps (too_high fs run named) P
  unfolding too_high
  high_keeps run named = keep_on (λ _. keep_none) keep_refuse

  closed_keeps : (place : At) (inner : Tall FullPat) → Keeps (closed_head n fs wanted place inner) (HeadIs fs wanted)
  unfolding closed_head
  closed_keeps place inner = keep_then (λ left. from_keeps left)

  pair_keeps : (place : At) (pair : Pair) → IsOperator fs wanted pair.called.text
      → Keeps (pair_from n fs wanted place pair) (HeadIs fs wanted)
  unfolding pair_from pair_head pair_left pair_arguments pair_behind pair_pattern
  pair_keeps place pair it =
      keep_if_mark _
      (keep_if_taken_by (bare_operator fs wanted) named (IsBare fs wanted) (bare_is fs wanted)
      (λ second so. keep_within (λ _. infix_keeps _ second so))
      (keep_bind (arguments_keep 1) (λ args ends. keep_pure _ (
        it.infix_here,
        paren_wanted wanted _ _ pair.called args.tree it.may ends,
      ))))
      (keep_either (may_be_bare fs wanted) (λ _. keep_either (nat_lt ((pair_run pair).height + 1) n)
      (λ _. keep_then (λ inner. closed_keeps place inner)) (high_keeps (pair_run pair) false)) keep_refuse)

  pair_of_keeps : (place : At) (left : Left) (called : Name) (found : Option Fixity) → IsOperator fs wanted called.text
      → Keeps (pair_of n fs wanted place left called found) (HeadIs fs wanted)
  unfolding pair_of
  pair_of_keeps place left called None it = keep_refuse
  pair_of_keeps place left called (Some f) it = keep_then (λ right. pair_keeps place _ it)

  some_keeps : (place : At) → Keeps (parens_some n fs wanted place) (HeadIs fs wanted)
  unfolding parens_some parens_from parens_behind parens_pattern
  some_keeps place =
      keep_then (λ left. keep_if_taken_by (operator_in fs wanted) named (λ called. IsOperator fs wanted called.text)
      (operator_is fs wanted) (λ called it. pair_of_keeps place left called (fixity_of fs called.text) it)
      (keep_either (may_be_bare fs wanted) (λ _. keep_either (nat_lt (max (operand_height left.operand) 1) n)
      (λ _. keep_then (λ inner. closed_keeps place inner))
      (high_keeps (start left.first left.operand) (is_named left.operand))) keep_refuse))

  pub parens_keep : (place : At) → Keeps (parens_head n fs wanted place) (HeadIs fs wanted)
  unfolding parens_head unit_head
  parens_keep place =
      keep_either (may_be_bare fs wanted)
      (λ _. keep_if_mark _ (keep_within (λ _. from_keeps _)) (some_keeps place)) (some_keeps place)

  atom_keeps : (x : Lexeme) → Keeps (atom_head n fs wanted x) (HeadIs fs wanted)
  unfolding atom_head
  atom_keeps x = keep_then (λ left. from_keeps left)

  word_keeps : (x : Lexeme) (found : Option Word) → Keeps (head_word n fs wanted x found) (HeadIs fs wanted)
  unfolding op_head
  word_keeps x (Some w.Op) =
      keep_then (λ long. named_keeps true (at x) long (prefix_name fs wanted true long.parts) refl)
  word_keeps x (Some w.Open) = parens_keep (at x)
  word_keeps x _ = atom_keeps x

  kind_keeps : (x : Lexeme) (kind : LexemeKind) → Keeps (head_kind n fs wanted x kind) (HeadIs fs wanted)
  kind_keeps x (k.Reserved text) = word_keeps x (word_of text)
  kind_keeps x (k.Name parts) = named_keeps false (at x) (long_named x parts) (prefix_name fs wanted false parts) refl
  kind_keeps x (k.TyVar text) = keep_refuse
  kind_keeps x (k.Int value label) = atom_keeps x
  kind_keeps x (k.Str text) = atom_keeps x
  kind_keeps x (k.Char byte) = atom_keeps x

  pub head_keeps : (x : Lexeme) → Keeps (head_after n fs wanted x) (HeadIs fs wanted)
  head_keeps x = kind_keeps x x.kind

pub heads_have_forms : HeadsHaveTheirForms
heads_have_forms n fs wanted x = (head_keeps n fs wanted x).gives

-- ---- clauses

-- a clause whose head is so
abbrev ClauseIs : Fixities → Wanted → Tall FullClause → Type 0
ClauseIs fs wanted made = IsClauseHead fs wanted (head_of made.tree)

-- what a head asks of the next ones is a name and a number
same_wanted : (first head : FullHead) → IsWanted (wanted_by first) head → wanted_by head ≡ wanted_by first
same_wanted (h.Prefix called args) head is = is
same_wanted (h.Infix left called right) head is = is
same_wanted (h.ParenInfix left called right args) head is = is

-- clauses, of which there is one
record AreClauses (fs : Fixities) (wanted : Wanted) (found : Tall (List FullClause)) : Type 0 where
  some : 0 < length (map head_of found.tree)
  each : All (IsClauseHead fs wanted) (map head_of found.tree)

one_clause : (fs : Fixities) (wanted : Wanted) (first : Tall FullClause) → ClauseIs fs wanted first
    → AreClauses fs wanted (one first)
one_clause fs wanted first is =
    record { some = omega arith; each = All-cons (IsClauseHead fs wanted) (head_of first.tree) [] is (All-nil (IsClauseHead fs wanted)) }

more_clauses : (fs : Fixities) (wanted : Wanted) (found : Tall (List FullClause)) (next : Tall FullClause)
    → AreClauses fs wanted found → ClauseIs fs wanted next → AreClauses fs wanted (more found next)
more_clauses fs wanted found next are is =
    let joined : map head_of (found.tree ++ next.tree ∷ []) ≡ map head_of found.tree ++ head_of next.tree ∷ [] =
    map-append head_of found.tree (next.tree ∷ []) in
    record {
      some = subst (λ (heads : List FullHead). 0 < length heads) (sym joined) (longer (map head_of found.tree));
      each = All-same (IsClauseHead fs wanted) _ _ joined
          (All-push (IsClauseHead fs wanted) (map head_of found.tree) (head_of next.tree) are.each is);
    }
  where
    longer : (heads : List FullHead) → 0 < length (heads ++ head_of next.tree ∷ [])
    longer [] = omega arith
    longer (head ∷ heads) = omega arith

module _ (n : ℕ) (parts : Level) (fs : Fixities) where
  clause_of_keeps : (wanted : Wanted) (start : At) (head : Tall FullHead) → IsClauseHead fs wanted head.tree
      → Keeps (clause_of n parts fs start head) (ClauseIs fs wanted)
  unfolding clause_of
  clause_of_keeps wanted start head is =
      keep_then (λ result. keep_then (λ body. keep_pure _
      (subst (IsClauseHead fs wanted) (sym (ap (λ clause. clause.head) (out-roll-FullClause
      (record { head = head.tree; ty = result.tree; body = body.tree; at = start })))) is)))

  clause_keeps : (first : FullHead) → Keeps (clause n parts fs (wanted_by first)) (ClauseIs fs (wanted_by first))
  unfolding clause
  clause_keeps first =
      keep_then (λ x. keep_bind (head_keeps n fs (wanted_by first) x) (λ head is.
      clause_of_keeps (wanted_by first) (at x) head (is.0, same_wanted first head.tree is.1)))

  function_keeps : Keeps (function n parts fs) (λ made. IsFunction fs made.tree)
  unfolding function function_of function_from function_by further
  function_keeps =
      keep_then (λ x. keep_bind (head_keeps n fs wanted.Any x) (λ head is.
      keep_bind (clause_of_keeps (wanted_by head.tree) (at x) head (is.0, refl)) (λ first so.
      keep_bind (keep_many (λ found x are. keep_bind (clause_keeps (head_of first.tree)) (λ next too.
      keep_pure _ (more_clauses fs _ found next are too))) _ (one_clause fs _ first (so.0, refl)))
      (λ clauses are. keep_pure _ (record {
        wanted = wanted_by (head_of first.tree);
        some =
            subst (λ (clauses : List FullClause). 0 < length (map head_of clauses)) (sym (clauses_of (at x) clauses.tree)) are.some;
        each =
            subst (λ (clauses : List FullClause). All (IsClauseHead fs (wanted_by (head_of first.tree))) (map head_of clauses))
            (sym (clauses_of (at x) clauses.tree)) are.each;
      })))))
    where
      clauses_of : (start : At) (clauses : List FullClause)
          → (out-FullFunBind (fun_bind start clauses)).clauses ≡ clauses
      clauses_of start clauses =
          ap (λ bind. bind.clauses) (out-roll-FullFunBind (record { clauses = clauses; at = start }))

pub clauses_of_one : ClausesAreOfOneFunction
clauses_of_one n fs = (function_keeps n (level n) fs).gives
