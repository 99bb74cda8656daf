-- What is known of a lexeme that a head goes on with.
use Rattle.std.proofs.Common.{◌≡◌, ℕ, ◌+◌, ◌<◌, List, [], ◌∷◌, length, Option, None, Some, is_some, Bool, true, false, not, ◌||◌, ◌&&◌, ◌==◌, inl, inr, if◌then◌else◌, refl, sym, ap, ap₂, subst, ◌∙◌, arith, rules, eq-eqb}
use Rattle.std.proofs.lemmas.Bool.{eqb-true, lt-ltb}
use Rattle.std.proofs.lemmas.Slice.Eq.{bytes_eq-Decides}
use Rattle.std.specs.Str.{bytes_eq}
use denote.Enum.Bare.{same_true, true_same}
use Rattle.sml_lexer.specs.declared.lexeme.Lexeme.{Lexeme}
use Rattle.sml_lexer.specs.declared.lexeme.LexemeKind.{LexemeKind}
use Rattle.sml_lexer.specs.declared.lexeme.LexemeKind.TheVariants as k
use Rattle.sml_trees.specs.declared.full_exp.FullHead.TheVariants as form
use Rattle.sml_trees.specs.declared.full_pat.Fixity.{Fixity}
use Rattle.sml_trees.specs.declared.full_pat.FullPat.{FullPat}
use Rattle.sml_trees.specs.declared.full_ty.OpName.{OpName}
use Rattle.sml_trees.specs.declared.name.Name.{Name}
use Rattle.core_patterns.specs.Patterns.{starts_atpat, starts_atpat_word, starts_atpat_kind, operator}
use Rattle.infix_names.specs.Fixities.{Fixities, fixity_of, if_name, clash, joining}
use Rattle.sml_lexer.specs.Words.{same_word}
use Rattle.phrase_reading.specs.Words.{is, is_that, word, word_in, name_in, name_of, and_then, named}
use Rattle.sml_lexer.specs.contracts.words.Word.{the_type}
use Rattle.sml_lexer.specs.declared.words.Word.{Word}
use Rattle.sml_lexer.specs.declared.words.Word.TheVariants as w
use Rattle.clause_heads.specs.Heads.{may_be, may_be_infix, may_be_bare, may_go_on, may_end, if_infix, operator_in, bare_operator}
use Rattle.clause_heads.specs.declared.heads.Wanted.{Wanted}
use Rattle.clause_heads.specs.declared.heads.Wanted.TheVariants as wanted
use Rattle.head_laws.specs.Forms.{IsAsked, AsksForSome, IsBehindHead}

-- ---- what tests tell

pub both : (a b : Bool) → (a && b) ≡ true → (a ≡ true) × (b ≡ true)
both true b h = (refl, h)
both false b h = absurd (cc)

pub if_some : {A : Type 0} (b : Bool) (x y : A) → (if b then Some x else None) ≡ Some y → (b ≡ true) × (x ≡ y)
if_some {A} true x y h = (refl, cc)
if_some {A} false x y h = absurd (cc)

pub if_other : {A : Type 0} (b : Bool) (x : Option A) (y : A) → (if b then x else None) ≡ Some y
    → (b ≡ true) × (x ≡ Some y)
if_other true x y h = (refl, h)
if_other {A} false x y h = absurd (cc)

pub then_some : {A B : Type 0} (f : A → Option B) (found : Option A) (b : B) → and_then f found ≡ Some b
    → (a : A) × (found ≡ Some a) × (f a ≡ Some b)
then_some {A} {B} f None b h = absurd (cc)
then_some f (Some a) b h = (a, refl, h)

pub some_of : {A : Type 0} (found : Option A) → is_some found ≡ true → (a : A) × (found ≡ Some a)
some_of {A} None h = absurd (cc)
some_of (Some a) h = (a, refl)

none_of : {A : Type 0} (found : Option A) → is_some found ≡ false → found ≡ None
none_of None h = refl
none_of {A} (Some a) h = absurd (cc)

pub or_true : (b : Bool) → (b || true) ≡ true
or_true true = refl
or_true false = refl

-- ---- reserved words and marks

-- a lexeme that is a word
pub word_is : (v : Word) (x : Lexeme) → is v x ≡ true → word x ≡ Some v
unfolding same_word
word_is v x h = by_word (word x) h
  where
    by_word : (found : Option Word) → is_that v found ≡ true → found ≡ Some v
    by_word None h = absurd (cc)
    by_word (Some found) h = ap Some (same_true the_type (search rules) found v h)

pub is_word : (x : Lexeme) (v : Word) → word x ≡ Some v → is v x ≡ true
unfolding same_word
is_word x v h = ap (is_that v) h ∙ true_same the_type v v refl

-- .. is no other one
pub is_by : (v : Word) (x : Lexeme) (found : Option Word) → word x ≡ found → is v x ≡ is_that v found
is_by v x found h = ap (is_that v) h

-- .. and no name
word_no_name : (kind : LexemeKind) (v : Word) → word_in kind ≡ Some v → name_in kind ≡ None
word_no_name (k.Reserved text) v h = refl
word_no_name (k.Name parts) v h = absurd (cc)
word_no_name (k.TyVar text) v h = refl
word_no_name (k.Int value ok) v h = refl
word_no_name (k.Str text) v h = refl
word_no_name (k.Char byte) v h = refl

pub no_name : (x : Lexeme) (v : Word) → word x ≡ Some v → name_of x ≡ None
no_name x v h = word_no_name x.kind v h

word_starts : (fs : Fixities) (kind : LexemeKind) (v : Word) → word_in kind ≡ Some v
    → starts_atpat_kind fs kind ≡ starts_atpat_word (Some v)
word_starts fs (k.Reserved text) v h = ap starts_atpat_word h
word_starts fs (k.Name parts) v h = absurd (cc)
word_starts fs (k.TyVar text) v h = absurd (cc)
word_starts fs (k.Int value ok) v h = absurd (cc)
word_starts fs (k.Str text) v h = absurd (cc)
word_starts fs (k.Char byte) v h = absurd (cc)

pub starts_by : (fs : Fixities) (x : Lexeme) (v : Word) → word x ≡ Some v → starts_atpat fs x ≡ starts_atpat_word
    (Some v)
starts_by fs x v h = word_starts fs x.kind v h

-- what stands behind a head begins no atomic pattern
pub behind_starts : (fs : Fixities) (x : Lexeme) → IsBehindHead x → starts_atpat fs x ≡ false
behind_starts fs x (inl h) = starts_by fs x w.Colon (word_is w.Colon x h)
behind_starts fs x (inr h) = starts_by fs x w.Equals (word_is w.Equals x h)

-- ---- names

-- an infix name begins no atomic pattern
infix_starts : (fs : Fixities) (kind : LexemeKind) (text : List ℕ) → name_in kind ≡ Some text
    → is_some (fixity_of fs text) ≡ true → starts_atpat_kind fs kind ≡ false
infix_starts fs (k.Reserved word) text h infix_here = absurd (cc)
infix_starts fs (k.Name []) text h infix_here = absurd (cc)
infix_starts fs (k.Name (part ∷ [])) text h infix_here =
    let same : part ≡ text = cc in
    ap not (ap (λ (name : List ℕ). is_some (fixity_of fs name)) same ∙ infix_here)
infix_starts fs (k.Name (part ∷ second ∷ parts)) text h infix_here = absurd (cc)
infix_starts fs (k.TyVar name) text h infix_here = absurd (cc)
infix_starts fs (k.Int value ok) text h infix_here = absurd (cc)
infix_starts fs (k.Str name) text h infix_here = absurd (cc)
infix_starts fs (k.Char byte) text h infix_here = absurd (cc)

module _ (fs : Fixities) (wanted : Wanted) where
  -- an infix name of which the clause may be
  pub record IsOperator (x : Lexeme) (text : List ℕ) : Type 0 where
    pub name : name_of x ≡ Some text
    pub fixity : Fixity
    pub is : fixity_of fs text ≡ Some fixity
    pub may : may_be wanted text ≡ true

  pub operator_is : (x : Lexeme) (text : List ℕ) → operator_in fs wanted x ≡ Some text → IsOperator x text
  operator_is x text h =
      let found = then_some (if_infix fs wanted) (name_of x) text h in
      let so = if_some (is_some (fixity_of fs found.0) && may_be wanted found.0) found.0 text found.2 in
      let tests = both (is_some (fixity_of fs found.0)) (may_be wanted found.0) so.0 in
      let fixity = some_of (fixity_of fs found.0) tests.0 in
      record {
        name = found.1 ∙ ap Some so.1;
        fixity = fixity.0;
        is = subst (λ (name : List ℕ). fixity_of fs name ≡ Some fixity.0) so.1 fixity.1;
        may = subst (λ (name : List ℕ). may_be wanted name ≡ true) so.1 tests.1;
      }

  pub operator_of : (x : Lexeme) (text : List ℕ) → name_of x ≡ Some text → is_some (fixity_of fs text) ≡ true
      → may_be wanted text ≡ true → operator_in fs wanted x ≡ Some text
  operator_of x text name infix_here may =
      ap (and_then (if_infix fs wanted)) name
      ∙ ap₂ (λ (a b : Bool). if a && b then Some text else None) infix_here may

  pub bare_is : (x : Lexeme) (text : List ℕ) → bare_operator fs wanted x ≡ Some text
      → (may_be_bare fs wanted ≡ true) × (operator_in fs wanted x ≡ Some text)
  bare_is x text h = if_other (may_be_bare fs wanted) (operator_in fs wanted x) text h

  pub bare_of : (x : Lexeme) (text : List ℕ) → may_be_bare fs wanted ≡ true → operator_in fs wanted x ≡ Some text
      → bare_operator fs wanted x ≡ Some text
  bare_of x text bare h = ap₂ (λ (a : Bool) (found : Option (List ℕ)). if a then found else None) bare h

  -- an operator begins no atomic pattern
  pub operator_starts : (x : Lexeme) (text : List ℕ) → IsOperator x text → starts_atpat fs x ≡ false
  operator_starts x text it = infix_starts fs x.kind text it.name (ap is_some it.is)

  -- .. and what begins one is no operator
  pub started_bare : (x : Lexeme) → starts_atpat fs x ≡ true → is_some (bare_operator fs wanted x) ≡ false
  started_bare x starts = by_found (bare_operator fs wanted x) refl
    where
      by_found : (found : Option (List ℕ)) → bare_operator fs wanted x ≡ found → is_some found ≡ false
      by_found None h = refl
      by_found (Some text) h =
          let it = operator_is x text (bare_is x text h).1 in
          let stops = operator_starts x text it in absurd (cc (starts, stops))

  -- a mark is no operator
  pub word_operator : (x : Lexeme) (v : Word) → word x ≡ Some v → operator_in fs wanted x ≡ None
  word_operator x v h = ap (and_then (if_infix fs wanted)) (no_name x v h)

-- a mark is no infix name
pub word_quiet : (fs : Fixities) (wanted : Wanted) (x : Lexeme) (v : Word) → word x ≡ Some v
    → is_some (bare_operator fs wanted x) ≡ false
word_quiet fs wanted x v h = by_bare (may_be_bare fs wanted)
  where
    by_bare : (b : Bool) → is_some (if b then operator_in fs wanted x else None) ≡ false
    by_bare true = ap is_some (word_operator fs wanted x v h)
    by_bare false = refl

-- a run of one operand goes on with an operator
pub joins : (fs : Fixities) (x : Lexeme) (text : List ℕ) (f : Fixity) → name_of x ≡ Some text
    → fixity_of fs text ≡ Some f
    → joining (operator fs x) [] ≡ Some f
unfolding clash
joins fs x text f name is = ap (λ (found : Option Fixity). joining found []) (ap (if_name fs) name ∙ is)

-- no run goes on with a mark that begins no pattern
pub word_joins : (fs : Fixities) (x : Lexeme) (v : Word) (ops : List Fixity) → word x ≡ Some v
    → joining (operator fs x) ops ≡ None
word_joins fs x v ops h = ap (λ (found : Option Fixity). joining found ops) (ap (if_name fs) (no_name x v h))

-- ---- what is asked for

same_text : (text : List ℕ) → bytes_eq text text ≡ true
same_text text = (bytes_eq-Decides text text).1 refl

text_is : (name text : List ℕ) → bytes_eq name text ≡ true → text ≡ name
text_is name text h = sym ((bytes_eq-Decides name text).0 h)

may_same : (name text : List ℕ) → text ≡ name → bytes_eq name text ≡ true
may_same name text same = (bytes_eq-Decides name text).1 (sym same)

-- an infix head
pub infix_asked : (fs : Fixities) (wanted : Wanted) (left right : FullPat) (x : Lexeme) (text : List ℕ)
    → may_be_bare fs wanted ≡ true → may_be wanted text ≡ true → IsAsked wanted (form.Infix left (named x text) right)
infix_asked fs wanted.Any left right x text bare may = tt
infix_asked fs (wanted.Same name args) left right x text bare may =
    ap₂ wanted.Same (text_is name text may) (sym (eqb-true args 1 (both (args == 1) (is_some
    (fixity_of fs name)) bare).0))

-- what asks for an infix head
pub record AsksInfix (fs : Fixities) (wanted : Wanted) (text : List ℕ) : Type 0 where
  pub bare : may_be_bare fs wanted ≡ true
  pub may : may_be wanted text ≡ true

pub asks_infix : (fs : Fixities) (wanted : Wanted) (left right : FullPat) (called : Name)
    → is_some (fixity_of fs called.text) ≡ true → IsAsked wanted (form.Infix left called right)
    → AsksInfix fs wanted called.text
asks_infix fs wanted.Any left right called infix_here asked = record { bare = refl; may = refl }
asks_infix fs (wanted.Same name args) left right called infix_here asked =
    let same : called.text ≡ name = cc in
    let one : 1 ≡ args = cc in
    record {
      bare = ap₂ (λ (n : ℕ) (text : List ℕ). (n == 1) && is_some (fixity_of fs text)) (sym one) (sym same) ∙ infix_here;
      may = may_same name called.text same;
    }

-- a head of the first form
pub prefix_asked : (wanted : Wanted) (called : OpName) (args : List FullPat) → may_be wanted called.name.text ≡ true
    → may_end wanted (0 + length args) ≡ true → IsAsked wanted (form.Prefix called args)
prefix_asked wanted.Any called args may ends = tt
prefix_asked (wanted.Same name count) called args may ends =
    let same : 0 + length args ≡ count = eqb-true (0 + length args) count ends in
    ap₂ wanted.Same (text_is name called.name.text may) (omega (arith, same))

pub prefix_some : (wanted : Wanted) (args : List FullPat) → AsksForSome wanted → may_end wanted (0 + length args) ≡ true
    → 0 < length args
prefix_some wanted.Any args some ends = let more : 0 < 0 + length args = search rules in omega arith
prefix_some (wanted.Same name count) args some ends =
    let same : 0 + length args ≡ count = eqb-true (0 + length args) count ends in omega arith

-- what asks for so many arguments of a name, of which some stand before these
pub record AsksArguments (wanted : Wanted) (text : List ℕ) (before more : ℕ) : Type 0 where
  pub may : may_be wanted text ≡ true
  pub ends : may_end wanted (before + more) ≡ true
  pub goes : (n : ℕ) → n < more → may_go_on wanted (before + n) ≡ true

pub asks_prefix : (wanted : Wanted) (called : OpName) (args : List FullPat) → 0 < length args
    → IsAsked wanted (form.Prefix called args) → AsksArguments wanted called.name.text 0 (length args)
asks_prefix wanted.Any called args some asked =
    record { may = refl; ends = lt-ltb 0 (0 + length args) (omega arith); goes = λ n low. refl }
asks_prefix (wanted.Same name count) called args some asked =
    let same : called.name.text ≡ name = cc in
    let all : length args ≡ count = cc in
    record {
      may = may_same name called.name.text same;
      ends = eq-eqb (0 + length args) count (omega arith);
      goes = λ n low. lt-ltb (0 + n) count (omega arith);
    }

-- an infix head in parentheses
pub paren_asked : (wanted : Wanted) (left right : FullPat) (called : Name) (args : List FullPat)
    → may_be wanted called.text ≡ true → may_end wanted (1 + length args) ≡ true
    → IsAsked wanted (form.ParenInfix left called right args)
paren_asked wanted.Any left right called args may ends = tt
paren_asked (wanted.Same name count) left right called args may ends =
    ap₂ wanted.Same (text_is name called.text may) (eqb-true (1 + length args) count ends)

pub asks_paren : (wanted : Wanted) (left right : FullPat) (called : Name) (args : List FullPat)
    → IsAsked wanted (form.ParenInfix left called right args) → AsksArguments wanted called.text 1 (length args)
asks_paren wanted.Any left right called args asked =
    record { may = refl; ends = lt-ltb 0 (1 + length args) (omega arith); goes = λ n low. refl }
asks_paren (wanted.Same name count) left right called args asked =
    let same : called.text ≡ name = cc in
    let all : 1 + length args ≡ count = cc in
    record {
      may = may_same name called.text same;
      ends = eq-eqb (1 + length args) count all;
      goes = λ n low. lt-ltb (1 + n) count (omega arith);
    }

pub asks_paren_infix : (fs : Fixities) (wanted : Wanted) (left right : FullPat) (called : Name) (args : List FullPat)
    → is_some (fixity_of fs called.text) ≡ true → IsAsked wanted (form.ParenInfix left called right args)
    → may_be_infix fs wanted ≡ true
asks_paren_infix fs wanted.Any left right called args infix_here asked = refl
asks_paren_infix fs (wanted.Same name count) left right called args infix_here asked =
    let same : called.text ≡ name = cc in
    ap (λ (text : List ℕ). is_some (fixity_of fs text)) (sym same) ∙ infix_here

-- where a bare infix head may stand, one in parentheses may
pub bare_infix : (fs : Fixities) (wanted : Wanted) → may_be_bare fs wanted ≡ true → may_be_infix fs wanted ≡ true
bare_infix fs wanted.Any bare = refl
bare_infix fs (wanted.Same name args) bare = (both (args == 1) (is_some (fixity_of fs name)) bare).1
