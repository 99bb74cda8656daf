-- What is read as a head is of one of the three forms, and each of these is read.
use Rattle.std.proofs.Common.{◌≡◌, ℕ, zero, suc, ◌+◌, ◌≤◌, ◌<◌, max, length, List, [], ◌∷◌, ◌++◌, Option, None, Some, is_some, Bool, true, false, not, ◌||◌, ◌&&◌, ◌⊎◌, inl, inr, nat_lt, if◌then◌else◌, refl, sym, ap, ap₂, subst, ◌∙◌, arith, length-append}
use Rattle.std.proofs.lemmas.Bool.{lt-ltb, ltb-true}
use Rattle.std.proofs.lemmas.List.{append-nil, append_assoc}
use Rattle.grammars.specs.Grammar.{Grammar, End, Ends, Phrase, Rounds, head_or, begins}
use Rattle.sml_lexer.specs.declared.lexeme.Lexeme.{Lexeme}
use Rattle.sml_lexer.specs.declared.lexeme.LexemeKind.{LexemeKind}
use Rattle.sml_lexer.specs.declared.lexeme.LexemeKind.TheVariants as lexeme
use Rattle.sml_trees.specs.declared.full_exp.FullHead.{FullHead}
use Rattle.sml_trees.specs.declared.full_exp.FullHead.TheVariants as form
use Rattle.sml_trees.specs.declared.full_pat.Fixity.{Fixity}
use Rattle.sml_trees.specs.declared.full_pat.FullPat.{FullPat}
use Rattle.sml_trees.specs.declared.full_pat.FullPat.TheVariants as p
use Rattle.sml_trees.specs.declared.full_ty.OpName.{OpName}
use Rattle.sml_trees.specs.declared.name.At.{At}
use Rattle.sml_trees.specs.declared.name.LongName.{LongName}
use Rattle.sml_trees.specs.declared.name.Name.{Name}
use Rattle.core_types.specs.Types.{ty}
use Rattle.core_patterns.specs.Patterns.{is_operand, starts_atpat, starts_atpat_kind, plain, in_parens, inside_parens, other, behind_op, atpat_word, atpat_kind, pat_level, pat, atpat}
use Rattle.core_patterns.specs.declared.operand.Operand.{Operand}
use Rattle.core_patterns.specs.declared.operand.Operand.TheVariants as o
use Rattle.infix_names.specs.Fixities.{Fixities, fixity_of}
use Rattle.phrase_reading.specs.Names.{either, if_mark}
use Rattle.phrase_reading.specs.Sized.{leaf, more}
use Rattle.sml_lexer.specs.Words.{word_of}
use Rattle.phrase_reading.specs.Words.{g, is, word, word_in, only, name_in, long_in, long_of, and_then, at, named, long_named, taken}
use Rattle.phrase_reading.specs.declared.tall.Tall.{Tall}
use Rattle.sml_lexer.specs.declared.words.Word.{Word}
use Rattle.sml_lexer.specs.declared.words.Word.TheVariants as w
use Rattle.clause_heads.specs.Heads.{may_be, may_be_infix, may_be_bare, may_go_on, may_end, if_prefix, prefix_name, if_head, behind_op as head_behind_op, operator_in, bare_operator, starts_head, starts_head_kind, starts_head_word, atom, argument, infix_head, infix_from, atom_head, takes_more, arguments_from, arguments, prefix_head, long_pat, long_head, short_head, named_head_by, op_head, pair_run, pair_arguments, pair_left, pair_head, pair_behind, pair_from, pair_of, pair_pattern, parens_from, parens_behind, parens_pattern, parens_some, unit_head, parens_head, head_word, head_kind, head_after}
use Rattle.clause_heads.specs.declared.heads.Wanted.{Wanted}
use Rattle.clause_heads.specs.declared.paren_head.Left.{Left}
use Rattle.clause_heads.specs.declared.paren_head.Pair.{Pair}
use Rattle.head_laws.specs.Forms.{IsTree, IsAtpat, AreAtpats, is_infix, IsPrefix, IsInfix, IsParenInfix, IsHead, IsAsked, AsksForSome, IsBehindHead, head}
use Rattle.head_laws.specs.Promises.{HeadsAreOfTheForms}
use Rattle.head_laws.proofs.Passing.{Keeps, keep_refuse, keep_bind, keep_then, keep_on, keep_weak, keep_none}
use Rattle.head_laws.proofs.Algebra.{Began, Same, same_itself, same_trans, same_equal, same_bind, same_on, same_pure, same_three, same_choice, same_many, same_or, same_began, began, begun_in, begun_of, if_taken_in, if_taken_of, if_taken_or, taken_in, taken_of, if_mark_in, if_mark_of, if_mark_or, either_in, either_of, never_refused, within_in}
use Rattle.head_laws.proofs.Lexemes.{word_is, is_word, starts_by, both, if_some, then_some, operator_is, operator_of, bare_is, bare_of, started_bare, IsOperator, infix_asked, asks_infix, prefix_asked, prefix_some, AsksArguments, asks_prefix, paren_asked, asks_paren, asks_paren_infix, bare_infix, some_of, or_true, word_quiet, behind_starts}
use Rattle.head_laws.proofs.Parens.{Inf, infix_tree, closed_tree, left_same, pair_with, pair_same, pair_cases, parens_cases, parens_low, from_of, from_in, inside_in, inside_of}

-- ---- values that are made of a part

mapped_in : {A B : Type 0} (grammar : g A) (f : A → B) (xs : List Lexeme) (next : Option Lexeme) (b : B)
    → Phrase (Grammar.bind grammar (λ a. Grammar.pure (f a))) xs next b → (a : A) × Phrase grammar xs next a × (b ≡ f a)
mapped_in {A} {B} grammar f xs next b (inl (a, ys, zs, split, p, (nil, is))) =
    let same : b ≡ f a = cc in
    let all : ys ≡ xs = sym (split ∙ ap (λ (l : List Lexeme). ys ++ l) nil ∙ append-nil ys) in (
      a,
      subst (λ (l : List Lexeme). Phrase grammar l next a) all
          (subst (λ (l : List Lexeme). Phrase grammar ys (head_or l next) a) nil p),
      same,
    )
mapped_in grammar f xs next b (inr h) = absurd h

mapped_of : {A B : Type 0} (grammar : g A) (f : A → B) (xs : List Lexeme) (next : Option Lexeme) (a : A)
    → Phrase grammar xs next a → Phrase (Grammar.bind grammar (λ a. Grammar.pure (f a))) xs next (f a)
mapped_of grammar f xs next a p = inl (a, xs, [], sym (append-nil xs), p, (refl, refl))

-- ---- atomic patterns

-- an atomic pattern, from its first lexeme on
record IsAtom (n : ℕ) (fs : Fixities) (xs : List Lexeme) (next : Option Lexeme) (pat : FullPat) : Type 0 where
  first : Lexeme
  rest : List Lexeme
  operand : Operand
  written : xs ≡ first ∷ rest
  starts : starts_atpat fs first ≡ true
  reads : Phrase ((pat_level fs n).atpat first) rest next operand
  tree : pat ≡ (plain (at first) operand).tree

module _ (n : ℕ) (fs : Fixities) where
  atom_of : (x : Lexeme) (xs : List Lexeme) (next : Option Lexeme) (pat : Tall FullPat) → starts_atpat fs x ≡ true
      → Phrase (atom n fs x) xs next pat → IsAtpat n fs (x ∷ xs) next pat.tree
  unfolding atom atpat
  atom_of x xs next pat starts h = (pat.height, inl (starts, h))

  atom_plain : (x : Lexeme) (xs : List Lexeme) (next : Option Lexeme) (operand : Operand)
      → Phrase ((pat_level fs n).atpat x) xs next operand → Phrase (atom n fs x) xs next (plain (at x) operand)
  unfolding atom
  atom_plain x xs next operand h = mapped_of ((pat_level fs n).atpat x) (λ operand. plain
      (at x) operand) xs next operand h

  operand_of : (x : Lexeme) (xs : List Lexeme) (next : Option Lexeme) (operand : Operand) → starts_atpat fs x ≡ true
      → Phrase ((pat_level fs n).atpat x) xs next operand → IsAtpat n fs (x ∷ xs) next (plain (at x) operand).tree
  unfolding atpat
  operand_of x xs next operand starts h = (
    (plain (at x) operand).height,
    inl (
      starts,
      mapped_of ((pat_level fs n).atpat x) (λ operand. plain
          (at x) operand) xs next operand h,
    ),
  )

  atom_in : (xs : List Lexeme) (next : Option Lexeme) (pat : FullPat) → IsAtpat n fs xs next pat
      → IsAtom n fs xs next pat
  unfolding atpat
  atom_in xs next pat (height, h) =
      let made : Tall FullPat = record { tree = pat; height = height } in
      let found = began (starts_atpat fs) (λ x. Grammar.bind ((pat_level fs n).atpat x) (λ operand. Grammar.pure
      (plain (at x) operand)))
      xs next made h in
      let one = mapped_in ((pat_level fs n).atpat found.first) (λ operand. plain
      (at found.first) operand) found.rest next made
      found.then_so in
      record {
        first = found.first;
        rest = found.rest;
        operand = one.0;
        written = found.written;
        starts = found.is;
        reads = one.1;
        tree = ap (λ (made : Tall FullPat). made.tree) one.2;
      }

  argument_in : (xs : List Lexeme) (next : Option Lexeme) (pat : Tall FullPat) → Phrase (argument n fs) xs next pat
      → IsAtpat n fs xs next pat.tree
  unfolding argument
  argument_in xs next pat h =
      let found = begun_in (starts_atpat fs) (λ x. atom n fs x) xs next pat h in
      subst (λ (l : List Lexeme). IsAtpat n fs l next pat.tree) (sym found.written)
      (atom_of found.first found.rest next pat found.is found.then_so)

  argument_of : (xs : List Lexeme) (next : Option Lexeme) (pat : FullPat) → IsAtpat n fs xs next pat
      → IsTree (argument n fs) xs next pat
  unfolding argument atom
  argument_of xs next pat is =
      let one = atom_in xs next pat is in
      subst (λ (l : List Lexeme). IsTree (argument n fs) l next pat) (sym one.written)
      (subst (λ (pat : FullPat). IsTree (argument n fs) (one.first ∷ one.rest) next pat) (sym one.tree) (
        (plain (at one.first) one.operand).height,
        begun_of (starts_atpat fs) (λ x. atom n fs x) one.first one.rest next (plain
            (at one.first) one.operand) one.starts
            (mapped_of ((pat_level fs n).atpat one.first) (λ operand. plain
            (at one.first) operand) one.rest next one.operand one.reads),
      ))

-- ---- infix heads

-- two patterns with an infix name between them
abbrev infix_made : Tall FullPat → Name → Tall FullPat → Tall FullHead
infix_made left called right = record {
  tree = form.Infix left.tree called right.tree;
  height = max left.height right.height;
}

module _ (n : ℕ) (fs : Fixities) where
  infix_in : (left : Tall FullPat) (called : Name) (xs : List Lexeme) (next : Option Lexeme) (made : Tall FullHead)
      → Phrase (infix_head n fs left called) xs next made
      → (right : FullPat) × (made.tree ≡ form.Infix left.tree called right) × IsAtpat n fs xs next right
  unfolding infix_head
  infix_in left called xs next made h =
      let found = mapped_in (argument n fs) (infix_made left called) xs next made h in
      (found.0.tree, ap (λ (made : Tall FullHead). made.tree) found.2, argument_in n fs xs next found.0 found.1)

  infix_of : (left : Tall FullPat) (called : Name) (right : FullPat) (xs : List Lexeme) (next : Option Lexeme)
      → IsAtpat n fs xs next right → IsTree (infix_head n fs left called) xs next (form.Infix left.tree called right)
  unfolding infix_head
  infix_of left called right xs next is =
      let found = argument_of n fs xs next right is in (
        max left.height found.0,
        mapped_of (argument n fs) (infix_made left called) xs next
            (record { tree = right; height = found.0 }) found.1,
      )

module _ (n : ℕ) (fs : Fixities) (wanted : Wanted) where
  -- what an infix head is read as, from its first lexeme on
  atom_form : (x : Lexeme) (xs : List Lexeme) (next : Option Lexeme) (made : Tall FullHead) → starts_atpat fs x ≡ true
      → Phrase (atom_head n fs wanted x) xs next made
      → IsHead n fs (x ∷ xs) next made.tree × IsAsked wanted made.tree
  unfolding atom_head
  atom_form x xs next made starts (inr h) = absurd h
  atom_form x xs next made starts (inl (left, ys, zs, split, p, r)) =
      let t = from_in n fs wanted left zs next made r in
      let found = infix_in n fs left (named t.first t.found) t.rest next made t.then_so in
      let is = bare_is fs wanted t.first t.found t.is in
      let it = operator_is fs wanted t.first t.found is.1 in
      let one : Phrase (atom n fs x) ys (Some t.first) left =
      subst (λ (l : List Lexeme). Phrase (atom n fs x) ys (head_or l next) left) t.written p in
      subst (λ (tree : FullHead). IsHead n fs (x ∷ xs) next tree × IsAsked wanted tree) (sym found.1) (
        (
          x ∷ ys,
          t.first,
          t.rest,
          ap (λ (l : List Lexeme). x ∷ l) (split ∙ ap (λ (l : List Lexeme). ys ++ l) t.written),
          atom_of n fs x ys (Some t.first) left starts one,
          (it.name, refl),
          ap is_some it.is,
          found.2,
        ),
        infix_asked fs wanted left.tree found.0 t.first t.found is.0 it.may,
      )

  atom_reads : (xs : List Lexeme) (next : Option Lexeme) (left : FullPat) (called : Name) (right : FullPat)
      → IsInfix n fs xs next left called right → IsAsked wanted (form.Infix left called right)
      → Began (starts_atpat fs) xs (λ x rest. IsTree (atom_head n fs wanted x) rest next (form.Infix left called right))
  unfolding atom_head atom
  atom_reads xs next left called right (ys, z, zs, split, before, vid, infix_here, behind) asked =
      let one = atom_in n fs ys (Some z) left before in
      let asks = asks_infix fs wanted left right called infix_here asked in
      let bare = bare_of fs wanted z called.text asks.bare
      (operator_of fs wanted z called.text vid.0 infix_here asks.may) in
      let made = infix_of n fs (plain (at one.first) one.operand) (named z called.text) right zs next behind in
      let same : form.Infix (plain (at one.first) one.operand).tree
      (named z called.text) right ≡ form.Infix left called right =
      ap₂ (λ (left : FullPat) (called : Name). form.Infix left called right) (sym one.tree) (sym vid.1) in
      record {
        first = one.first;
        rest = one.rest ++ z ∷ zs;
        written = split ∙ ap (λ (l : List Lexeme). l ++ z ∷ zs) one.written;
        is = one.starts;
        then_so = subst (IsTree (atom_head n fs wanted one.first) (one.rest ++ z ∷ zs) next) same (
          made.0,
          inl (
            plain (at one.first) one.operand,
            one.rest,
            z ∷ zs,
            refl,
            mapped_of ((pat_level fs n).atpat one.first) (λ operand. plain (at one.first) operand) one.rest (Some z)
                one.operand one.reads,
            from_of n fs wanted (plain (at one.first) one.operand) z called.text zs next
                (record {
                  tree = form.Infix (plain (at one.first) one.operand).tree (named z called.text) right;
                  height = made.0;
                }) bare made.1,
          ),
        );
      }

-- ---- what an infix head begins with

module _ (n : ℕ) (fs : Fixities) (wanted : Wanted) (x : Lexeme) where
  atom_same : Same (atom_head n fs wanted x)
      (Grammar.bind ((pat_level fs n).atpat x) (λ operand. infix_from n fs wanted (plain (at x) operand)))
  unfolding atom_head atom
  atom_same = same_trans (same_three _ _ _) (same_bind same_itself (λ operand. same_pure _ _))

module _ (k : ℕ) (fs : Fixities) (wanted : Wanted) (x : Lexeme) where
  name_is : (parts : List (List ℕ)) → x.kind ≡ lexeme.Name parts
      → (pat_level fs (suc k)).atpat x ≡ Grammar.pure (o.Id (record { op = false; long = long_named x parts }))
  unfolding pat_level
  name_is parts is = ap (λ (kind : LexemeKind). atpat_kind (ty k) (pat fs k) x kind) is

  word_kind : (kind : LexemeKind) (v : Word) → word_in kind ≡ Some v
      → atpat_kind (ty k) (pat fs k) x kind ≡ atpat_word (ty k) (pat fs k) (at x) (Some v)
  word_kind (lexeme.Reserved text) v h = ap (atpat_word (ty k) (pat fs k) (at x)) h
  word_kind (lexeme.Name parts) v h = absurd (cc)
  word_kind (lexeme.TyVar text) v h = absurd (cc)
  word_kind (lexeme.Int value ok) v h = absurd (cc)
  word_kind (lexeme.Str text) v h = absurd (cc)
  word_kind (lexeme.Char byte) v h = absurd (cc)

  word_atom : (v : Word) → word x ≡ Some v
      → (pat_level fs (suc k)).atpat x ≡ atpat_word (ty k) (pat fs k) (at x) (Some v)
  unfolding pat_level
  word_atom v h = word_kind x.kind v h

  name_same : (parts : List (List ℕ)) → x.kind ≡ lexeme.Name parts
      → Same (atom_head (suc k) fs wanted x) (infix_from (suc k) fs wanted (long_pat false (at x) (long_named x parts)))
  name_same parts is =
      same_trans (atom_same (suc k) fs wanted x) (same_trans (same_bind (same_equal (name_is parts is))
      (λ operand. same_itself))
      (same_pure _ _))

  op_same : word x ≡ Some w.Op
      → Same (atom_head (suc k) fs wanted x)
      (Grammar.bind (taken long_of long_named) (λ long. infix_from (suc k) fs wanted (long_pat true (at x) long)))
  unfolding behind_op
  op_same is =
      same_trans (atom_same (suc k) fs wanted x) (same_trans (same_bind (same_equal (word_atom w.Op is))
      (λ operand. same_itself))
      (same_trans (same_three _ _ _) (same_bind same_itself (λ long. same_pure _ _))))

  open_same : word x ≡ Some w.Open
      → Same (atom_head (suc k) fs wanted x)
      (Grammar.bind (in_parens (pat fs k) (at x)) (λ left. infix_from (suc k) fs wanted left))
  unfolding other
  open_same is =
      same_trans (atom_same (suc k) fs wanted x) (same_trans (same_bind (same_equal (word_atom w.Open is))
      (λ operand. same_itself))
      (same_trans (same_three _ _ _) (same_bind same_itself (λ left. same_pure _ _))))

  -- what stands in parentheses before an infix name
  open_parts : word x ≡ Some w.Open
      → Same (atom_head (suc k) fs wanted x)
      (Grammar.on (is w.Close) (λ _. infix_from (suc k) fs wanted (leaf (p.Unit (at x))))
      (Grammar.bind (inside_parens (pat fs k) (at x)) (λ left. infix_from (suc k) fs wanted left)))
  unfolding in_parens
  open_parts is =
      same_trans (open_same is) (same_trans (same_choice _ _ _ _) (same_on (λ _. same_pure _ _) same_itself))

none_left : (fs : Fixities) (x : Lexeme) → Keeps ((pat_level fs zero).atpat x) (λ _. ⊥)
unfolding pat_level
none_left fs x = keep_none

-- ---- heads that begin with a name

abbrev IsPrefixTree : FullHead → Type 0
IsPrefixTree (form.Infix left called right) = ⊥
IsPrefixTree (form.Prefix called args) = Unit {0}
IsPrefixTree (form.ParenInfix left called right args) = ⊥

module _ (n : ℕ) (fs : Fixities) (wanted : Wanted) (op : Bool) (start : At) (long : LongName) where
  -- the name of a head of the first form
  abbrev called_by : List ℕ → OpName
  called_by text = record { op = op; name = record { text = text; line = long.line; col = long.col } }

  named_cases : (found : Option (List ℕ)) (xs : List Lexeme) (next : Option Lexeme) (made : Tall FullHead)
      → Phrase (named_head_by n fs wanted op start long found) xs next made
      → ((nat_lt 0 n ≡ true) × Phrase (infix_from n fs wanted (long_pat op start long)) xs next made)
      ⊎ ((text : List ℕ) × (found ≡ Some text) × Phrase (prefix_head n fs wanted (called_by text)) xs next made)
  unfolding long_head short_head
  named_cases None xs next made h =
      inl (within_in (nat_lt 0 n) (infix_from n fs wanted (long_pat op start long)) xs next made h)
  named_cases (Some text) xs next made h =
      elim (if_taken_in (bare_operator fs wanted) named
      (λ called. Grammar.within (nat_lt 0 n) (infix_head n fs (long_pat op start long) called))
      (prefix_head n fs wanted (called_by text)) xs next made h) [
        | inl t ↦ (
            let room = within_in (nat_lt 0 n) (infix_head n fs (long_pat op start long)
            (named t.first t.found)) t.rest next made
            t.then_so in
            inl (
              room.0,
              subst (λ (l : List Lexeme). Phrase (infix_from n fs wanted (long_pat op start long)) l next made)
                  (sym t.written) (from_of n fs wanted
                  (long_pat op start long) t.first t.found t.rest next made t.is room.1),
            )
            )
        | inr o ↦ inr (text, refl, o.1)
      ]

  named_infix : (found : Option (List ℕ)) (xs : List Lexeme) (next : Option Lexeme) (made : Tall FullHead)
      → nat_lt 0 n ≡ true → Phrase (infix_from n fs wanted (long_pat op start long)) xs next made
      → Phrase (named_head_by n fs wanted op start long found) xs next made
  unfolding long_head short_head
  named_infix None xs next made room h = inl (room, h)
  named_infix (Some text) xs next made room h =
      let t = from_in n fs wanted (long_pat op start long) xs next made h in
      subst (λ (l : List Lexeme). Phrase (named_head_by n fs wanted op start long (Some text)) l next made)
      (sym t.written)
      (if_taken_of (bare_operator fs wanted) named
      (λ called. Grammar.within (nat_lt 0 n) (infix_head n fs (long_pat op start long) called))
      (prefix_head n fs wanted (called_by text)) t.first t.found t.rest next made t.is (inl (room, t.then_so)))

  named_prefix : (found : Option (List ℕ)) (text : List ℕ) (xs : List Lexeme) (next : Option Lexeme)
      (made : Tall FullHead)
      → found ≡ Some text → begins (λ x. is_some (bare_operator fs wanted x)) (head_or xs next) ≡ false
      → Phrase (prefix_head n fs wanted (called_by text)) xs next made
      → Phrase (named_head_by n fs wanted op start long found) xs next made
  unfolding short_head
  named_prefix None text xs next made is stop h = absurd (cc)
  named_prefix (Some name) text xs next made is stop h =
      let same : text ≡ name = cc in
      if_taken_or (bare_operator fs wanted) named
      (λ called. Grammar.within (nat_lt 0 n) (infix_head n fs (long_pat op start long) called))
      (prefix_head n fs wanted (called_by name)) xs next made stop
      (subst (λ (text : List ℕ). Phrase (prefix_head n fs wanted (called_by text)) xs next made) same h)

-- ---- arguments

module _ (n : ℕ) (fs : Fixities) (wanted : Wanted) (before : ℕ) where
  abbrev takes : Tall (List FullPat) → Lexeme → Bool
  takes found x = takes_more fs wanted (before + length found.tree) x

  abbrev one_more : Tall (List FullPat) → Lexeme → g (Tall (List FullPat))
  one_more found x = Grammar.bind (atom n fs x) (λ next. Grammar.pure (more found next))

  rounds_atpats : (count : ℕ) (found all : Tall (List FullPat)) (xs : List Lexeme) (next : Option Lexeme)
      → Rounds takes (λ found x. Ends (one_more found x)) count found (End.whole all) xs next
      → (pats : List FullPat) × (all.tree ≡ found.tree ++ pats) × AreAtpats n fs xs next pats
  rounds_atpats zero found all xs next h =
      let ends : End.whole all ≡ End.whole found = h.2 in
      let same : all ≡ found = cc in
      ([], ap (λ (found : Tall (List FullPat)). found.tree) same ∙ sym (append-nil found.tree), h.1)
  rounds_atpats (suc count) found all [] next h = absurd h
  rounds_atpats (suc count) found all (x ∷ xs) next (goes, inr h) = absurd h
  rounds_atpats (suc count) found all (x ∷ xs) next (goes, inl (c, ys, zs, split, q, r)) =
      let one = mapped_in (atom n fs x) (λ next. more found next) ys (head_or zs next) c q in
      let others = rounds_atpats count c all zs next r in
      let starts = (both (may_go_on wanted (before + length found.tree)) (starts_atpat fs x) goes).1 in (
        one.0.tree ∷ others.0,
        others.1 ∙ ap (λ (c : Tall (List FullPat)). c.tree ++ others.0) one.2
            ∙ append_assoc found.tree (one.0.tree ∷ []) others.0,
        (
          x ∷ ys,
          zs,
          ap (λ (l : List Lexeme). x ∷ l) split,
          atom_of n fs x ys (head_or zs next) one.0 starts one.1,
          others.2,
        ),
      )

  arguments_in : (xs : List Lexeme) (next : Option Lexeme) (args : Tall (List FullPat))
      → Phrase (arguments n fs wanted before) xs next args
      → AreAtpats n fs xs next args.tree × (may_end wanted (before + length args.tree) ≡ true)
  unfolding arguments arguments_from
  arguments_in xs next args (inr h) = absurd h
  arguments_in xs next args (inl (found, ys, zs, split, p, r)) =
      elim (either_in (may_end wanted (before + length found.tree))
      (Grammar.pure found) Grammar.refuse zs next args r) [
        | inl e ↦ (
            let ends : End.whole args ≡ End.whole found = e.1.1 in
            let same : found ≡ args = cc in
            let all : ys ≡ xs = sym (split ∙ ap (λ (l : List Lexeme). ys ++ l) e.1.0 ∙ append-nil ys) in
            let rounds = rounds_atpats p.0 (record { tree = []; height = 0 }) found ys (head_or zs next) p.1 in
            let pats : AreAtpats n fs ys (head_or zs next) found.tree =
            subst (AreAtpats n fs ys (head_or zs next)) (sym rounds.1) rounds.2 in (
              subst (λ (args : Tall (List FullPat)). AreAtpats n fs xs next args.tree) same
                  (subst (λ (l : List Lexeme). AreAtpats n fs l next found.tree) all
                  (subst (λ (l : List Lexeme). AreAtpats n fs ys (head_or l next) found.tree) e.1.0 pats)),
              subst (λ (args : Tall (List FullPat)). may_end wanted (before + length args.tree) ≡ true) same e.0,
            )
            )
        | inr e ↦ never_refused zs next args e.1
      ]

  stops_at : (found : Tall (List FullPat)) (next : Option Lexeme) → begins (starts_atpat fs) next ≡ false
      → begins (takes found) next ≡ false
  stops_at found None stop = refl
  stops_at found (Some x) stop = ap (λ (b : Bool). may_go_on wanted (before + length found.tree) && b) stop ∙ no_and _
    where
      no_and : (b : Bool) → (b && false) ≡ false
      no_and true = refl
      no_and false = refl

  atpats_rounds : (pats : List FullPat) (found : Tall (List FullPat)) (xs : List Lexeme) (next : Option Lexeme)
      → AreAtpats n fs xs next pats
      → ((m : ℕ) → m < length pats → may_go_on wanted (before + (length found.tree + m)) ≡ true)
      → begins (starts_atpat fs) next ≡ false
      → IsTree (Grammar.many takes one_more found) xs next (found.tree ++ pats)
  atpats_rounds [] found xs next nil goes stop =
      subst (IsTree (Grammar.many takes one_more found) xs next) (sym (append-nil found.tree))
      (subst (λ (l : List Lexeme). IsTree (Grammar.many takes one_more found) l next found.tree) (sym nil)
      (found.height, (zero, (stops_at found next stop, refl, refl))))
  atpats_rounds (pat ∷ pats) found xs next (ys, zs, split, is, others) goes stop =
      let one = atom_in n fs ys (head_or zs next) pat is in
      let made = plain (at one.first) one.operand in
      let rest = atpats_rounds pats (more found made) zs next others (go_on made) stop in
      let same : (found.tree ++ made.tree ∷ []) ++ pats ≡ found.tree ++ pat ∷ pats =
      append_assoc found.tree (made.tree ∷ []) pats ∙ ap (λ (pat : FullPat). found.tree ++ pat ∷ pats) (sym one.tree) in
      subst (λ (l : List Lexeme). IsTree (Grammar.many takes one_more found) l next (found.tree ++ pat ∷ pats))
      (sym (split ∙ ap (λ (l : List Lexeme). l ++ zs) one.written))
      (subst (IsTree (Grammar.many takes one_more found) (one.first ∷ (one.rest ++ zs)) next) same (
        rest.0,
        (same_many takes one_more found).back (one.first ∷ (one.rest ++ zs)) next
            (record { tree = (found.tree ++ made.tree ∷ []) ++ pats; height = rest.0 })
            (inl (
              first_goes one.first one.starts,
              inl (
                more found made,
                one.rest,
                zs,
                refl,
                mapped_of (atom n fs one.first) (λ next. more found next) one.rest (head_or zs next) made
                    (atom_plain n fs one.first one.rest (head_or zs next) one.operand one.reads),
                rest.1,
              ),
            )),
      ))
    where
      go_on : (made : Tall FullPat) (m : ℕ) → m < length pats
          → may_go_on wanted (before + (length (more found made).tree + m)) ≡ true
      go_on made m low =
          let longer = length-append found.tree (made.tree ∷ []) in
          let same : length found.tree + suc m ≡ length (found.tree ++ made.tree ∷ []) + m = omega (arith, longer) in
          subst (λ (count : ℕ). may_go_on wanted (before + count) ≡ true) same (goes (suc m) (omega arith))

      first_goes : (x : Lexeme) → starts_atpat fs x ≡ true → takes found x ≡ true
      first_goes x starts =
          let none : length found.tree + 0 ≡ length found.tree = omega arith in
          ap₂ ◌&&◌ (subst (λ (count : ℕ). may_go_on wanted (before + count) ≡ true) none (goes 0 (omega arith))) starts

  arguments_of : (xs : List Lexeme) (next : Option Lexeme) (text : List ℕ) (args : List FullPat)
      → AreAtpats n fs xs next args → AsksArguments wanted text before (length args)
      → begins (starts_atpat fs) next ≡ false → IsTree (arguments n fs wanted before) xs next args
  unfolding arguments arguments_from
  arguments_of xs next text args are asks stop =
      let found = atpats_rounds args (record { tree = []; height = 0 }) xs next are (λ m low. goes m low) stop in
      let made : Tall (List FullPat) = record { tree = args; height = found.0 } in (
        found.0,
        inl (
          made,
          xs,
          [],
          sym (append-nil xs),
          found.1,
          either_of (may_end wanted (before + length args))
              (Grammar.pure made) Grammar.refuse [] next made asks.ends (refl, refl),
        ),
      )
    where
      goes : (m : ℕ) → m < length args → may_go_on wanted (before + (0 + m)) ≡ true
      goes m low =
          let same : m ≡ 0 + m = omega arith in
          subst (λ (count : ℕ). may_go_on wanted (before + count) ≡ true) same (asks.goes m low)

-- ---- heads of the first form

module _ (n : ℕ) (fs : Fixities) (wanted : Wanted) (called : OpName) where
  abbrev prefix_tree : Tall (List FullPat) → Tall FullHead
  prefix_tree args = record { tree = form.Prefix called args.tree; height = args.height }

  prefix_in : (xs : List Lexeme) (next : Option Lexeme) (made : Tall FullHead)
      → Phrase (prefix_head n fs wanted called) xs next made
      → (args : List FullPat) × (made.tree ≡ form.Prefix called args) × AreAtpats n fs xs next args
      × (may_end wanted (0 + length args) ≡ true)
  unfolding prefix_head
  prefix_in xs next made h =
      let found = mapped_in (arguments n fs wanted 0) prefix_tree xs next made h in
      let args = arguments_in n fs wanted 0 xs next found.0 found.1 in
      (found.0.tree, ap (λ (made : Tall FullHead). made.tree) found.2, args.0, args.1)

  prefix_of : (args : List FullPat) (xs : List Lexeme) (next : Option Lexeme) → AreAtpats n fs xs next args
      → AsksArguments wanted called.name.text 0 (length args) → begins (starts_atpat fs) next ≡ false
      → IsTree (prefix_head n fs wanted called) xs next (form.Prefix called args)
  unfolding prefix_head
  prefix_of args xs next are asks stop =
      let found = arguments_of n fs wanted 0 xs next called.name.text args are asks stop in (
        found.0,
        mapped_of (arguments n fs wanted 0) prefix_tree xs next
            (record { tree = args; height = found.0 }) found.1,
      )

-- what the name of such a head is
record IsPrefixName (fs : Fixities) (wanted : Wanted) (op : Bool) (parts : List (List ℕ)) (text : List ℕ) : Type 0 where
  only_part : only parts ≡ Some text
  allowed : (op || not (is_some (fixity_of fs text))) ≡ true
  may : may_be wanted text ≡ true

prefix_name_is : (fs : Fixities) (wanted : Wanted) (op : Bool) (parts : List (List ℕ)) (text : List ℕ)
    → prefix_name fs wanted op parts ≡ Some text → IsPrefixName fs wanted op parts text
prefix_name_is fs wanted op parts text is =
    let found = then_some (if_prefix fs wanted op) (only parts) text is in
    let so = if_some ((op || not (is_some (fixity_of fs found.0))) && may_be wanted found.0) found.0 text found.2 in
    let tests = both (op || not (is_some (fixity_of fs found.0))) (may_be wanted found.0) so.0 in
    record {
      only_part = found.1 ∙ ap Some so.1;
      allowed = subst (λ (text : List ℕ). (op || not (is_some (fixity_of fs text))) ≡ true) so.1 tests.0;
      may = subst (λ (text : List ℕ). may_be wanted text ≡ true) so.1 tests.1;
    }

prefix_name_of : (fs : Fixities) (wanted : Wanted) (op : Bool) (parts : List (List ℕ)) (text : List ℕ)
    → only parts ≡ Some text → (op || not (is_some (fixity_of fs text))) ≡ true → may_be wanted text ≡ true
    → prefix_name fs wanted op parts ≡ Some text
prefix_name_of fs wanted op parts text is form may =
    ap (and_then (if_prefix fs wanted op)) is ∙ ap₂ (λ (a b : Bool). if a && b then Some text else None) form may

-- a name that has `op` before it or not
abbrev op_called : Bool → Name → OpName
op_called op name = record { op = op; name = name }

not_true : (b : Bool) → (false || not b) ≡ true → b ≡ false
not_true true is = absurd (cc)
not_true false is = refl

-- the name that a lexeme is
kind_name : (kind : LexemeKind) (parts : List (List ℕ)) → long_in kind ≡ Some parts → name_in kind ≡ only parts
kind_name (lexeme.Reserved text) parts is = absurd (cc)
kind_name (lexeme.Name found) parts is = let same : found ≡ parts = cc in ap only same
kind_name (lexeme.TyVar text) parts is = absurd (cc)
kind_name (lexeme.Int value ok) parts is = absurd (cc)
kind_name (lexeme.Str text) parts is = absurd (cc)
kind_name (lexeme.Char byte) parts is = absurd (cc)

name_kind : (kind : LexemeKind) (text : List ℕ) → name_in kind ≡ Some text
    → (parts : List (List ℕ)) × (kind ≡ lexeme.Name parts) × (only parts ≡ Some text)
name_kind (lexeme.Reserved word) text is = absurd (cc)
name_kind (lexeme.Name parts) text is = (parts, refl, is)
name_kind (lexeme.TyVar name) text is = absurd (cc)
name_kind (lexeme.Int value ok) text is = absurd (cc)
name_kind (lexeme.Str name) text is = absurd (cc)
name_kind (lexeme.Char byte) text is = absurd (cc)

plain_starts : (fs : Fixities) (parts : List (List ℕ)) (text : List ℕ) → only parts ≡ Some text
    → is_some (fixity_of fs text) ≡ false → is_operand fs parts ≡ true
plain_starts fs [] text is plain_here = absurd (cc)
plain_starts fs (part ∷ []) text is plain_here =
    let same : part ≡ text = cc in ap (λ (text : List ℕ). not (is_some (fixity_of fs text))) same ∙ ap not plain_here
plain_starts fs (part ∷ second ∷ parts) text is plain_here = absurd (cc)

-- arguments begin with an atomic pattern
args_start : (n : ℕ) (fs : Fixities) (wanted : Wanted) (xs : List Lexeme) (next : Option Lexeme) (args : List FullPat)
    → AreAtpats n fs xs next args → 0 < length args
    → begins (λ x. is_some (bare_operator fs wanted x)) (head_or xs next) ≡ false
args_start n fs wanted xs next [] are some = absurd (omega arith)
args_start n fs wanted xs next (pat ∷ pats) (ys, zs, split, is, others) some =
    let one = atom_in n fs ys (head_or zs next) pat is in
    subst (λ (l : List Lexeme). begins (λ x. is_some (bare_operator fs wanted x)) (head_or l next) ≡ false)
    (sym (split ∙ ap (λ (l : List Lexeme). l ++ zs) one.written)) (started_bare fs wanted one.first one.starts)

-- ---- what is read is of a form

abbrev Formed : ℕ → Fixities → Wanted → List Lexeme → Option Lexeme → Tall FullHead → Type 0
Formed n fs wanted xs next made = IsHead n fs xs next made.tree × IsAsked wanted made.tree

module _ (fs : Fixities) (wanted : Wanted) (some : AsksForSome wanted) where
  name_infix : (n : ℕ) (x : Lexeme) (parts : List (List ℕ)) (xs : List Lexeme) (next : Option Lexeme)
      (made : Tall FullHead) → x.kind ≡ lexeme.Name parts → starts_atpat fs x ≡ true → nat_lt 0 n ≡ true
      → Phrase (infix_from n fs wanted (long_pat false (at x) (long_named x parts))) xs next made
      → Formed n fs wanted (x ∷ xs) next made
  name_infix zero x parts xs next made is starts room h = let low = ltb-true 0 0 room in absurd (omega arith)
  name_infix (suc k) x parts xs next made is starts room h =
      atom_form (suc k) fs wanted x xs next made starts ((name_same k fs wanted x parts is).back xs next made h)

  name_form : (n : ℕ) (x : Lexeme) (parts : List (List ℕ)) (xs : List Lexeme) (next : Option Lexeme)
      (made : Tall FullHead) → x.kind ≡ lexeme.Name parts → starts_atpat fs x ≡ true
      → Phrase (named_head_by n fs wanted false (at x) (long_named x parts)
      (prefix_name fs wanted false parts)) xs next made
      → Formed n fs wanted (x ∷ xs) next made
  name_form n x parts xs next made is starts h =
      elim (named_cases n fs wanted false (at x) (long_named x parts)
      (prefix_name fs wanted false parts) xs next made h) [
        | inl i ↦ name_infix n x parts xs next made is starts i.0 i.1
        | inr i ↦ (
            let called = called_by n fs wanted false (at x) (long_named x parts) i.0 in
            let name = prefix_name_is fs wanted false parts i.0 i.1 in
            let args = prefix_in n fs wanted called xs next made i.2 in
            subst (λ (tree : FullHead). IsHead n fs (x ∷ xs) next tree × IsAsked wanted tree) (sym args.1) (
              (
                x ∷ [],
                xs,
                refl,
                (refl, (ap name_in is ∙ name.only_part, refl), not_true (is_some (fixity_of fs i.0)) name.allowed),
                args.2,
                prefix_some wanted args.0 some args.3,
              ),
              prefix_asked wanted called args.0 name.may args.3,
            )
            )
      ]

  op_infix : (n : ℕ) (x y : Lexeme) (parts : List (List ℕ)) (xs : List Lexeme) (next : Option Lexeme)
      (made : Tall FullHead) → word x ≡ Some w.Op → long_of y ≡ Some parts → starts_atpat fs x ≡ true
      → nat_lt 0 n ≡ true
      → Phrase (infix_from n fs wanted (long_pat true (at x) (long_named y parts))) xs next made
      → Formed n fs wanted (x ∷ y ∷ xs) next made
  op_infix zero x y parts xs next made is name starts room h = let low = ltb-true 0 0 room in absurd (omega arith)
  op_infix (suc k) x y parts xs next made is name starts room h =
      atom_form (suc k) fs wanted x (y ∷ xs) next made starts ((op_same k fs wanted x is).back (y ∷ xs) next made
      (taken_of long_of long_named (λ long. infix_from (suc k) fs wanted (long_pat true
      (at x) long)) Grammar.refuse y parts xs
      next made name h))

  op_form : (n : ℕ) (x : Lexeme) (xs : List Lexeme) (next : Option Lexeme) (made : Tall FullHead) → is w.Op x ≡ true
      → starts_atpat fs x ≡ true → Phrase (op_head n fs wanted (at x)) xs next made → Formed n fs wanted
      (x ∷ xs) next made
  unfolding op_head
  op_form n x xs next made op_here starts h =
      let t = taken_in (head_behind_op fs wanted) long_named
      (λ long. named_head_by n fs wanted true (at x) long
      (prefix_name fs wanted true long.parts)) Grammar.refuse xs next made h in
      let found = then_some (if_head fs wanted) (long_of t.first) t.found t.is in
      let so = if_some (may_be_bare fs wanted || is_some
      (prefix_name fs wanted true found.0)) found.0 t.found found.2 in
      let name : long_of t.first ≡ Some t.found = found.1 ∙ ap Some so.1 in
      subst (λ (l : List Lexeme). Formed n fs wanted (x ∷ l) next made) (sym t.written)
      (elim (named_cases n fs wanted true (at x) (long_named t.first t.found)
      (prefix_name fs wanted true t.found) t.rest next
      made t.then_so) [
        | inl i ↦ op_infix n x t.first t.found t.rest next made (word_is w.Op x op_here) name starts i.0 i.1
        | inr i ↦ (
            let called = called_by n fs wanted true (at x) (long_named t.first t.found) i.0 in
            let so = prefix_name_is fs wanted true t.found i.0 i.1 in
            let args = prefix_in n fs wanted called t.rest next made i.2 in
            subst (λ (tree : FullHead). IsHead n fs (x ∷ t.first ∷ t.rest) next tree × IsAsked wanted tree)
            (sym args.1) (
              (
                x ∷ t.first ∷ [],
                t.rest,
                refl,
                (refl, op_here, (kind_name t.first.kind t.found name ∙ so.only_part, refl)),
                args.2,
                prefix_some wanted args.0 some args.3,
              ),
              prefix_asked wanted called args.0 so.may args.3,
            )
            )
      ])

  -- ---- .. and in parentheses

  not_close : (x : Lexeme) → starts_atpat fs x ≡ true → is w.Close x ≡ false
  not_close x starts = by_test (is w.Close x) refl
    where
      by_test : (b : Bool) → is w.Close x ≡ b → b ≡ false
      by_test true is = let none = starts_by fs x w.Close (word_is w.Close x is) in absurd (cc (starts, none))
      by_test false is = refl

  some_begins : (n : ℕ) (place : At) (xs : List Lexeme) (next : Option Lexeme) (made : Tall FullHead)
      → Phrase (parens_some n fs wanted place) xs next made
      → Began (starts_atpat fs) xs (λ y rest. Phrase (Grammar.bind ((pat_level fs n).atpat y) (λ operand.
      parens_from n fs wanted place (record { first = at y; operand = operand }))) rest next made)
  unfolding parens_some
  some_begins n place xs next made h =
      same_began (left_same n fs (λ (left : Left). parens_from n fs wanted place left)) xs next made h

  some_infix : (n : ℕ) (x : Lexeme) (xs : List Lexeme) (next : Option Lexeme) (made : Tall FullHead)
      → word x ≡ Some w.Open
      → starts_atpat fs x ≡ true → Inf made → Phrase (parens_some n fs wanted (at x)) xs next made
      → Formed n fs wanted (x ∷ xs) next made
  some_infix zero x xs next made is starts inf h =
      let y = some_begins zero (at x) xs next made h in
      absurd ((zero_none y.first).gives y.rest next made y.then_so)
    where
      zero_none : (y : Lexeme) → Keeps (Grammar.bind ((pat_level fs zero).atpat y) (λ operand.
          parens_from zero fs wanted (at x) (record { first = at y; operand = operand }))) (λ _. ⊥)
      zero_none y = keep_bind (none_left fs y) (λ operand no. absurd no)
  some_infix (suc zero) x xs next made is starts inf h =
      let y = some_begins (suc zero) (at x) xs next made h in
      let low = (one_none y.first).gives y.rest next made y.then_so inf in absurd (omega (arith, low))
    where
      one_none : (y : Lexeme) → Keeps (Grammar.bind ((pat_level fs (suc zero)).atpat y) (λ operand.
          parens_from (suc zero) fs wanted (at x) (record { first = at y; operand = operand }))) (λ made. Inf made
          → 1 ≤ 0)
      one_none y =
          keep_then (λ operand. keep_weak (parens_low zero fs wanted (at x)
          (record { first = at y; operand = operand }))
          (λ made low inf. (low inf).1))
  some_infix (suc (suc j)) x xs next made here starts inf h =
      let y = some_begins (suc (suc j)) (at x) xs next made h in
      let stop : begins (is w.Close) (head_or xs next) ≡ false =
      subst (λ (l : List Lexeme). begins (is w.Close) (head_or l next) ≡ false) (sym y.written)
      (not_close y.first y.is) in
      atom_form (suc (suc j)) fs wanted x xs next made starts (same_or (open_parts
      (suc j) fs wanted x here) xs next made stop
      ((inside_in j fs wanted (at x)).pass xs next made inf h))

  -- an infix head in parentheses with its arguments
  abbrev paren_made : Pair → Tall (List FullPat) → Tall FullHead
  paren_made pair args = record {
    tree = form.ParenInfix (plain pair.first pair.left).tree pair.called (plain pair.second pair.right).tree args.tree;
    height = max (pair_run pair).height args.height;
  }

  args_in : (n : ℕ) (pair : Pair) (xs : List Lexeme) (next : Option Lexeme) (made : Tall FullHead)
      → Phrase (pair_arguments n fs wanted pair) xs next made
      → (args : List FullPat)
      × (made.tree ≡ form.ParenInfix (plain pair.first pair.left).tree pair.called
      (plain pair.second pair.right).tree args)
      × AreAtpats n fs xs next args × (may_end wanted (1 + length args) ≡ true)
  unfolding pair_arguments
  args_in n pair xs next made h =
      let found = mapped_in (arguments n fs wanted 1) (paren_made pair) xs next made h in
      let args = arguments_in n fs wanted 1 xs next found.0 found.1 in
      (found.0.tree, ap (λ (made : Tall FullHead). made.tree) found.2, args.0, args.1)

  pattern_tree : (n : ℕ) (place : At) (pair : Pair) → Keeps (pair_pattern n fs wanted place pair) Inf
  unfolding pair_pattern
  pattern_tree n place pair = keep_then (λ inner. closed_tree n fs wanted place inner)

  parens_tree : (n : ℕ) (place : At) (left : Left) → Keeps (parens_pattern n fs wanted place left) Inf
  unfolding parens_pattern
  parens_tree n place left = keep_then (λ inner. closed_tree n fs wanted place inner)

  some_form : (n : ℕ) (x : Lexeme) (xs : List Lexeme) (next : Option Lexeme) (made : Tall FullHead) → is w.Open x ≡ true
      → starts_atpat fs x ≡ true → Phrase (parens_some n fs wanted (at x)) xs next made
      → Formed n fs wanted (x ∷ xs) next made
  some_form n x xs next made opening starts h =
      let y = some_begins n (at x) xs next made h in by_operand y.first y.rest y.written y.is y.then_so
    where
      by_infix : Inf made → Formed n fs wanted (x ∷ xs) next made
      by_infix inf = some_infix n x xs next made (word_is w.Open x opening) starts inf h

      -- all parts of an infix head in parentheses
      by_args : (y z u c : Lexeme) (ahead bs es : List Lexeme) (left right : Operand) (text : List ℕ) (f : Fixity)
          → xs ≡ y ∷ (ahead ++ z ∷ (u ∷ (bs ++ c ∷ es))) → starts_atpat fs y ≡ true → starts_atpat fs u ≡ true
          → is w.Close c ≡ true → IsOperator fs wanted z text → fixity_of fs text ≡ Some f
          → Phrase ((pat_level fs n).atpat y) ahead (Some z) left → Phrase ((pat_level fs n).atpat u) bs (Some c) right
          → Phrase (pair_arguments n fs wanted (pair_with (record { first = at y; operand = left }) (named z text) f
          (at u) right))
          es next made
          → Formed n fs wanted (x ∷ xs) next made
      by_args y z u c ahead bs es left right text f split first second closes it here p q args =
          let found = args_in n (pair_with (record { first = at y; operand = left }) (named z text) f
          (at u) right) es next made args in
          subst (λ (tree : FullHead). IsHead n fs (x ∷ xs) next tree × IsAsked wanted tree) (sym found.1) (
            (
              x,
              y ∷ (ahead ++ z ∷ (u ∷ bs)),
              c,
              es,
              ap (λ (l : List Lexeme). x ∷ l) (split ∙ ap (λ (l : List Lexeme). y ∷ l)
                  (sym (append_assoc ahead (z ∷ (u ∷ bs)) (c ∷ es)))),
              opening,
              (
                y ∷ ahead,
                z,
                u ∷ bs,
                refl,
                operand_of n fs y ahead (Some z) left first p,
                (it.name, refl),
                ap is_some it.is,
                operand_of n fs u bs (Some c) right second q,
              ),
              closes,
              found.2,
            ),
            paren_asked wanted (plain (at y) left).tree (plain (at u) right).tree (named z text) found.0 it.may found.3,
          )

      by_second : (y z u : Lexeme) (ahead rest : List Lexeme) (left : Operand) (text : List ℕ) (f : Fixity)
          → xs ≡ y ∷ (ahead ++ z ∷ (u ∷ rest)) → starts_atpat fs y ≡ true → starts_atpat fs u ≡ true
          → IsOperator fs wanted z text → fixity_of fs text ≡ Some f → Phrase ((pat_level fs n).atpat y) ahead
          (Some z) left
          → Phrase (Grammar.bind ((pat_level fs n).atpat u) (λ operand. pair_from n fs wanted (at x)
          (pair_with (record { first = at y; operand = left }) (named z text) f (at u) operand))) rest next made
          → Formed n fs wanted (x ∷ xs) next made
      by_second y z u ahead rest left text f split first second it here p (inr h) = absurd h
      by_second y z u ahead rest left text f split first second it here p (inl (right, bs, ds, parts, q, r)) =
          elim (pair_cases n fs wanted (at x) (pair_with (record { first = at y; operand = left }) (named z text) f
          (at u) right)
          ds next made r) [
            | inl c ↦ elim c.then_so [
              | inl t ↦ by_infix ((infix_tree n fs wanted _ (named t.first t.found)).gives t.rest next made t.then_so.1)
              | inr args ↦ by_args y z u c.first ahead bs c.rest left right text f
                  (split ∙ ap (λ (l : List Lexeme). y ∷ (ahead ++ z ∷ (u ∷ l))) (parts ∙ ap (λ
                  (l : List Lexeme). bs ++ l) c.written))
                  first second c.is it here p
                  (subst (λ (l : List Lexeme). Phrase ((pat_level fs n).atpat u) bs
                  (head_or l next) right) c.written q) args
            ]
            | inr o ↦ by_infix ((pattern_tree n (at x) _).gives ds next made o.1)
          ]

      by_operand : (y : Lexeme) (rest : List Lexeme) → xs ≡ y ∷ rest → starts_atpat fs y ≡ true
          → Phrase (Grammar.bind ((pat_level fs n).atpat y) (λ operand.
          parens_from n fs wanted (at x) (record { first = at y; operand = operand }))) rest next made
          → Formed n fs wanted (x ∷ xs) next made
      by_operand y rest split first (inr h) = absurd h
      by_operand y rest split first (inl (left, ahead, bs, parts, p, r)) =
          elim (parens_cases n fs wanted (at x) (record { first = at y; operand = left }) bs next made r) [
            | inl t ↦ (
                let u = began (starts_atpat fs) (λ u. Grammar.bind ((pat_level fs n).atpat u) (λ operand.
                pair_from n fs wanted (at x) (pair_with (record { first = at y; operand = left })
                (named t.first t.found)
                t.then_so.0 (at u) operand))) t.rest next made t.then_so.3 in
                by_second y t.first u.first ahead u.rest left t.found t.then_so.0
                (split ∙ ap (λ (l : List Lexeme). y ∷ l) (parts ∙ ap (λ (l : List Lexeme). ahead ++ l)
                (t.written ∙ ap (λ (l : List Lexeme). t.first ∷ l) u.written)))
                first u.is (operator_is fs wanted t.first t.found t.is) t.then_so.2
                (subst (λ (l : List Lexeme). Phrase ((pat_level fs n).atpat y) ahead
                (head_or l next) left) t.written p) u.then_so
                )
            | inr o ↦ by_infix ((parens_tree n (at x) _).gives bs next made o.1)
          ]

  unit_form : (n : ℕ) (x c : Lexeme) (xs : List Lexeme) (next : Option Lexeme) (made : Tall FullHead)
      → word x ≡ Some w.Open
      → starts_atpat fs x ≡ true → is w.Close c ≡ true → Phrase (unit_head n fs wanted (at x)) xs next made
      → Formed n fs wanted (x ∷ c ∷ xs) next made
  unfolding unit_head
  unit_form zero x c xs next made is starts closes h =
      let room = within_in (nat_lt 0 0) (infix_from zero fs wanted (leaf (p.Unit (at x)))) xs next made h in
      let low = ltb-true 0 0 room.0 in absurd (omega (arith, low))
  unit_form (suc k) x c xs next made is starts closes h =
      let room = within_in (nat_lt 0 (suc k)) (infix_from (suc k) fs wanted (leaf (p.Unit (at x)))) xs next made h in
      atom_form (suc k) fs wanted x (c ∷ xs) next made starts
      ((open_parts k fs wanted x is).back (c ∷ xs) next made (inl (closes, room.1)))

  parens_form : (n : ℕ) (x : Lexeme) (xs : List Lexeme) (next : Option Lexeme) (made : Tall FullHead)
      → is w.Open x ≡ true
      → starts_atpat fs x ≡ true → Phrase (parens_head n fs wanted (at x)) xs next made
      → Formed n fs wanted (x ∷ xs) next made
  unfolding parens_head
  parens_form n x xs next made opening starts h =
      elim (either_in (may_be_bare fs wanted)
      (if_mark w.Close (unit_head n fs wanted (at x)) (parens_some n fs wanted (at x))) (parens_some n fs wanted (at x))
      xs next made h) [
        | inl b ↦ elim (if_mark_in w.Close (unit_head n fs wanted (at x)) (parens_some n fs wanted
            (at x)) xs next made b.1) [
              | inl c ↦ subst (λ (l : List Lexeme). Formed n fs wanted (x ∷ l) next made) (sym c.written)
                  (unit_form n x c.first c.rest next made (word_is w.Open x opening) starts c.is c.then_so)
              | inr o ↦ some_form n x xs next made opening starts o.1
            ]
        | inr b ↦ some_form n x xs next made opening starts b.1
      ]

  -- ---- .. and by the first lexeme

  word_form : (n : ℕ) (x : Lexeme) (found : Option Word) (xs : List Lexeme) (next : Option Lexeme)
      (made : Tall FullHead)
      → word x ≡ found → starts_atpat fs x ≡ true → Phrase (head_word n fs wanted x found) xs next made
      → Formed n fs wanted (x ∷ xs) next made
  word_form n x (Some w.Op) xs next made is starts h = op_form n x xs next made (is_word x w.Op is) starts h
  word_form n x (Some w.Open) xs next made is starts h = parens_form n x xs next made (is_word x w.Open is) starts h
  word_form n x _ xs next made is starts h = atom_form n fs wanted x xs next made starts h

  kind_form : (n : ℕ) (x : Lexeme) (kind : LexemeKind) (xs : List Lexeme) (next : Option Lexeme) (made : Tall FullHead)
      → x.kind ≡ kind → starts_atpat fs x ≡ true → Phrase (head_kind n fs wanted x kind) xs next made
      → Formed n fs wanted (x ∷ xs) next made
  kind_form n x (lexeme.Reserved text) xs next made is starts h =
      word_form n x (word_of text) xs next made (ap word_in is) starts h
  kind_form n x (lexeme.Name parts) xs next made is starts h = name_form n x parts xs next made is starts h
  kind_form n x (lexeme.TyVar text) xs next made is starts h = never_refused xs next made h
  kind_form n x (lexeme.Int value ok) xs next made is starts h = atom_form n fs wanted x xs next made starts h
  kind_form n x (lexeme.Str text) xs next made is starts h = atom_form n fs wanted x xs next made starts h
  kind_form n x (lexeme.Char byte) xs next made is starts h = atom_form n fs wanted x xs next made starts h

  -- what is read as a head is of one of the forms
  pub head_form : (n : ℕ) (xs : List Lexeme) (next : Option Lexeme) (made : FullHead)
      → IsTree (head n fs wanted) xs next made → IsHead n fs xs next made × IsAsked wanted made
  head_form n xs next made (height, h) =
      let tall : Tall FullHead = record { tree = made; height = height } in
      let found = begun_in (starts_head fs wanted) (λ x. head_after n fs wanted x) xs next tall h in
      let starts = (both (starts_atpat fs found.first) (starts_head_kind fs wanted found.first.kind) found.is).0 in
      subst (λ (l : List Lexeme). IsHead n fs l next made × IsAsked wanted made) (sym found.written)
      (kind_form n found.first found.first.kind found.rest next tall refl starts found.then_so)

  -- ---- what is of a form is read

  starts_word : (found : Option Word) → may_be_bare fs wanted ≡ true → starts_head_word fs wanted found ≡ true
  starts_word (Some w.Op) bare = refl
  starts_word (Some w.Open) bare = bare_infix fs wanted bare
  starts_word _ bare = bare

  starts_kind : (kind : LexemeKind) → starts_atpat_kind fs kind ≡ true → may_be_bare fs wanted ≡ true
      → starts_head_kind fs wanted kind ≡ true
  starts_kind (lexeme.Reserved text) starts bare = starts_word (word_of text) bare
  starts_kind (lexeme.Name parts) starts bare =
      ap (λ (b : Bool). b || is_some (prefix_name fs wanted false parts)) bare
  starts_kind (lexeme.TyVar text) starts bare = absurd (cc)
  starts_kind (lexeme.Int value ok) starts bare = bare
  starts_kind (lexeme.Str text) starts bare = bare
  starts_kind (lexeme.Char byte) starts bare = bare

  -- an infix head is read, whatever it begins with
  inside_reads : (k : ℕ) (place : At) (xs : List Lexeme) (next : Option Lexeme) (made : Tall FullHead)
      → may_be_bare fs wanted ≡ true
      → Phrase (Grammar.bind (inside_parens (pat fs k) place) (λ left. infix_from (suc k) fs wanted left)) xs next made
      → Phrase (parens_some (suc k) fs wanted place) xs next made
  unfolding inside_parens pat_level
  inside_reads zero place xs next made bare h = absurd (none.gives xs next made h)
    where
      none : Keeps (Grammar.bind (inside_parens (pat fs zero) place) (λ left. infix_from (suc zero) fs wanted left))
          (λ _. ⊥)
      none = keep_bind {P = λ _. ⊥} (keep_bind {P = λ _. ⊥} (keep_on (λ _. keep_none) keep_refuse)
          (λ inner no. absurd no))
          (λ left no. absurd no)
  inside_reads (suc j) place xs next made bare h = (inside_of j fs wanted place bare).pass xs next made tt h

  parens_reads : (k : ℕ) (x : Lexeme) (xs : List Lexeme) (next : Option Lexeme) (made : Tall FullHead)
      → word x ≡ Some w.Open → may_be_bare fs wanted ≡ true → Phrase (atom_head (suc k) fs wanted x) xs next made
      → Phrase (parens_head (suc k) fs wanted (at x)) xs next made
  unfolding parens_head unit_head if_mark
  parens_reads k x xs next made here bare h =
      either_of (may_be_bare fs wanted)
      (if_mark w.Close (unit_head (suc k) fs wanted (at x)) (parens_some (suc k) fs wanted (at x)))
      (parens_some (suc k) fs wanted (at x)) xs next made bare
      (by_mark xs ((open_parts k fs wanted x here).to xs next made h))
    where
      by_mark : (xs : List Lexeme)
          → Phrase (Grammar.on (is w.Close) (λ _. infix_from (suc k) fs wanted (leaf (p.Unit (at x))))
          (Grammar.bind (inside_parens (pat fs k) (at x)) (λ left. infix_from (suc k) fs wanted left))) xs next made
          → Phrase (if_mark w.Close (unit_head (suc k) fs wanted (at x)) (parens_some (suc k) fs wanted
          (at x))) xs next made
      by_mark [] h = (h.0, inside_reads k (at x) [] next made bare h.1)
      by_mark (c ∷ xs) (inl h) = inl (h.0, inl (lt-ltb 0 (suc k) (omega arith), h.1))
      by_mark (c ∷ xs) (inr h) = inr (h.0, inside_reads k (at x) (c ∷ xs) next made bare h.1)

  op_reads : (k : ℕ) (x : Lexeme) (xs : List Lexeme) (next : Option Lexeme) (made : Tall FullHead)
      → word x ≡ Some w.Op → may_be_bare fs wanted ≡ true → Phrase (atom_head (suc k) fs wanted x) xs next made
      → Phrase (op_head (suc k) fs wanted (at x)) xs next made
  unfolding op_head
  op_reads k x xs next made is bare h =
      let t = taken_in long_of long_named (λ long. infix_from (suc k) fs wanted (long_pat true
      (at x) long)) Grammar.refuse xs next
      made ((op_same k fs wanted x is).to xs next made h) in
      subst (λ (l : List Lexeme). Phrase (op_head (suc k) fs wanted (at x)) l next made) (sym t.written)
      (taken_of (head_behind_op fs wanted) long_named
      (λ long. named_head_by (suc k) fs wanted true (at x) long
      (prefix_name fs wanted true long.parts)) Grammar.refuse t.first
      t.found t.rest next made
      (ap (and_then (if_head fs wanted)) t.is
      ∙ ap (λ (b : Bool). if b || is_some (prefix_name fs wanted true t.found) then Some t.found else None) bare)
      (named_infix (suc k) fs wanted true (at x) (long_named t.first t.found)
      (prefix_name fs wanted true t.found) t.rest next made
      (lt-ltb 0 (suc k) (omega arith)) t.then_so))

  word_reads : (k : ℕ) (x : Lexeme) (found : Option Word) (xs : List Lexeme) (next : Option Lexeme)
      (made : Tall FullHead)
      → word x ≡ found → may_be_bare fs wanted ≡ true → Phrase (atom_head (suc k) fs wanted x) xs next made
      → Phrase (head_word (suc k) fs wanted x found) xs next made
  word_reads k x (Some w.Op) xs next made is bare h = op_reads k x xs next made is bare h
  word_reads k x (Some w.Open) xs next made is bare h = parens_reads k x xs next made is bare h
  word_reads k x _ xs next made is bare h = h

  kind_reads : (k : ℕ) (x : Lexeme) (kind : LexemeKind) (xs : List Lexeme) (next : Option Lexeme) (made : Tall FullHead)
      → x.kind ≡ kind → starts_atpat_kind fs kind ≡ true → may_be_bare fs wanted ≡ true
      → Phrase (atom_head (suc k) fs wanted x) xs next made → Phrase (head_kind (suc k) fs wanted x kind) xs next made
  kind_reads k x (lexeme.Reserved text) xs next made is starts bare h =
      word_reads k x (word_of text) xs next made (ap word_in is) bare h
  kind_reads k x (lexeme.Name parts) xs next made is starts bare h =
      named_infix (suc k) fs wanted false (at x) (long_named x parts) (prefix_name fs wanted false parts) xs next made
      (lt-ltb 0 (suc k) (omega arith)) ((name_same k fs wanted x parts is).to xs next made h)
  kind_reads k x (lexeme.TyVar text) xs next made is starts bare h = absurd (cc)
  kind_reads k x (lexeme.Int value ok) xs next made is starts bare h = h
  kind_reads k x (lexeme.Str text) xs next made is starts bare h = h
  kind_reads k x (lexeme.Char byte) xs next made is starts bare h = h

  infix_reads : (n : ℕ) (x : Lexeme) (xs : List Lexeme) (next : Option Lexeme) (made : Tall FullHead)
      → starts_atpat fs x ≡ true → may_be_bare fs wanted ≡ true → Phrase (atom_head n fs wanted x) xs next made
      → Phrase (head_after n fs wanted x) xs next made
  infix_reads zero x xs next made starts bare h =
      absurd (none.gives xs next made ((atom_same zero fs wanted x).to xs next made h))
    where
      none : Keeps (Grammar.bind ((pat_level fs zero).atpat x) (λ operand. infix_from zero fs wanted (plain
          (at x) operand)))
          (λ _. ⊥)
      none = keep_bind (none_left fs x) (λ operand no. absurd no)
  infix_reads (suc k) x xs next made starts bare h = kind_reads k x x.kind xs next made refl starts bare h

  infix_whole : (n : ℕ) (xs : List Lexeme) (next : Option Lexeme) (left : FullPat) (called : Name) (right : FullPat)
      → IsInfix n fs xs next left called right → IsAsked wanted (form.Infix left called right)
      → IsTree (head n fs wanted) xs next (form.Infix left called right)
  infix_whole n xs next left called right is asked =
      let one = atom_reads n fs wanted xs next left called right is asked in
      let bare = (asks_infix fs wanted left right called (infix_of_form is) asked).bare in
      subst (λ (l : List Lexeme). IsTree (head n fs wanted) l next (form.Infix left called right)) (sym one.written) (
        one.then_so.0,
        begun_of (starts_head fs wanted) (λ x. head_after n fs wanted x) one.first one.rest next
            (record { tree = form.Infix left called right; height = one.then_so.0 })
            (ap₂ ◌&&◌ one.is (starts_kind one.first.kind one.is bare))
            (infix_reads n one.first one.rest next
            (record { tree = form.Infix left called right; height = one.then_so.0 }) one.is bare
            one.then_so.1),
      )
    where
      infix_of_form : IsInfix n fs xs next left called right → is_infix fs called ≡ true
      infix_of_form (ys, z, zs, split, before, vid, infix_here, behind) = infix_here

  -- a head of the first form is read
  prefix_whole : (n : ℕ) (xs : List Lexeme) (next : Option Lexeme) (called : OpName) (args : List FullPat)
      → IsPrefix n fs xs next called args → IsAsked wanted (form.Prefix called args) → begins
      (starts_atpat fs) next ≡ false
      → IsTree (head n fs wanted) xs next (form.Prefix called args)
  unfolding op_head
  prefix_whole n xs next called args ([], zs, split, is, are, some) asked stop = absurd is
  prefix_whole n xs next called args (x ∷ [], zs, split, (alone, vid, plain_here), are, some) asked stop =
      let asks = asks_prefix wanted called args some asked in
      let found = prefix_of n fs wanted called args zs next are asks stop in
      let kind = name_kind x.kind called.name.text vid.0 in
      let name = prefix_name_of fs wanted false kind.0 called.name.text kind.2 (ap not plain_here) asks.may in
      subst (λ (l : List Lexeme). IsTree (head n fs wanted) l next (form.Prefix called args)) (sym split) (
        found.0,
        begun_of (starts_head fs wanted) (λ x. head_after n fs wanted x) x zs next
            (record { tree = form.Prefix called args; height = found.0 })
            (ap₂ ◌&&◌ (ap (starts_atpat_kind fs) kind.1 ∙ plain_starts fs kind.0 called.name.text kind.2 plain_here)
            (ap (starts_head_kind fs wanted) kind.1 ∙ ap (λ (found : Option
            (List ℕ)). may_be_bare fs wanted || is_some found) name
            ∙ or_true (may_be_bare fs wanted)))
            (subst (λ (kind : LexemeKind). Phrase (head_kind n fs wanted x kind) zs next
            (record { tree = form.Prefix called args; height = found.0 })) (sym kind.1)
            (named_prefix n fs wanted false (at x) (long_named x kind.0)
            (prefix_name fs wanted false kind.0) called.name.text zs next
            (record { tree = form.Prefix called args; height = found.0 }) name
            (args_start n fs wanted zs next args are some)
            (subst (λ (by : OpName). Phrase (prefix_head n fs wanted by) zs next
            (record { tree = form.Prefix called args; height = found.0 }))
            (ap₂ op_called alone vid.1) found.1))),
      )
  prefix_whole n xs next called args (op ∷ x ∷ [], zs, split, (has, op_here, vid), are, some) asked stop =
      let asks = asks_prefix wanted called args some asked in
      let found = prefix_of n fs wanted called args zs next are asks stop in
      let kind = name_kind x.kind called.name.text vid.0 in
      let name = prefix_name_of fs wanted true kind.0 called.name.text kind.2 refl asks.may in
      let word_here = word_is w.Op op op_here in
      subst (λ (l : List Lexeme). IsTree (head n fs wanted) l next (form.Prefix called args)) (sym split) (
        found.0,
        begun_of (starts_head fs wanted) (λ x. head_after n fs wanted x) op (x ∷ zs) next
            (record { tree = form.Prefix called args; height = found.0 })
            (ap₂ ◌&&◌ (starts_by fs op w.Op word_here) (op_starts op.kind word_here))
            (op_kind (record { tree = form.Prefix called args; height = found.0 }) op.kind word_here
            (op_prefix (record { tree = form.Prefix called args; height = found.0 }) x kind.0 (ap long_in kind.1)
            (named_prefix n fs wanted true (at op) (long_named x kind.0)
            (prefix_name fs wanted true kind.0) called.name.text zs next
            (record { tree = form.Prefix called args; height = found.0 }) name
            (args_start n fs wanted zs next args are some)
            (subst (λ (by : OpName). Phrase (prefix_head n fs wanted by) zs next
            (record { tree = form.Prefix called args; height = found.0 }))
            (ap₂ op_called has vid.1) found.1)) name)),
      )
    where
      op_starts : (kind : LexemeKind) → word_in kind ≡ Some w.Op → starts_head_kind fs wanted kind ≡ true
      op_starts (lexeme.Reserved text) is = ap (starts_head_word fs wanted) is
      op_starts (lexeme.Name parts) is = absurd (cc)
      op_starts (lexeme.TyVar text) is = absurd (cc)
      op_starts (lexeme.Int value ok) is = absurd (cc)
      op_starts (lexeme.Str text) is = absurd (cc)
      op_starts (lexeme.Char byte) is = absurd (cc)

      op_kind : (made : Tall FullHead) (kind : LexemeKind) → word_in kind ≡ Some w.Op
          → Phrase (op_head n fs wanted (at op)) (x ∷ zs) next made → Phrase (head_kind n fs wanted op kind)
          (x ∷ zs) next made
      op_kind made (lexeme.Reserved text) is h =
          subst (λ (found : Option Word). Phrase (head_word n fs wanted op found) (x ∷ zs) next made) (sym is) h
      op_kind made (lexeme.Name parts) is h = absurd (cc)
      op_kind made (lexeme.TyVar text) is h = absurd (cc)
      op_kind made (lexeme.Int value ok) is h = absurd (cc)
      op_kind made (lexeme.Str text) is h = absurd (cc)
      op_kind made (lexeme.Char byte) is h = absurd (cc)

      op_prefix : (made : Tall FullHead) (y : Lexeme) (parts : List (List ℕ)) → long_of y ≡ Some parts
          → Phrase (named_head_by n fs wanted true (at op) (long_named y parts)
          (prefix_name fs wanted true parts)) zs next made
          → prefix_name fs wanted true parts ≡ Some called.name.text
          → Phrase (op_head n fs wanted (at op)) (y ∷ zs) next made
      op_prefix made y parts is h name =
          taken_of (head_behind_op fs wanted) long_named
          (λ long. named_head_by n fs wanted true (at op) long
          (prefix_name fs wanted true long.parts)) Grammar.refuse y parts zs
          next made
          (ap (and_then (if_head fs wanted)) is
          ∙ ap (λ (found : Option (List ℕ)). if may_be_bare fs wanted || is_some found then Some parts else None) name
          ∙ ap (λ (b : Bool). if b then Some parts else None) (or_true (may_be_bare fs wanted)))
          h
  prefix_whole n xs next called args (y ∷ z ∷ u ∷ ys, zs, split, is, are, some) asked stop = absurd is

  -- .. and an infix head in parentheses
  args_of : (n : ℕ) (pair : Pair) (xs : List Lexeme) (next : Option Lexeme) (args : List FullPat)
      → AreAtpats n fs xs next args → AsksArguments wanted pair.called.text 1 (length args)
      → begins (starts_atpat fs) next ≡ false
      → IsTree (pair_arguments n fs wanted pair) xs next
      (form.ParenInfix (plain pair.first pair.left).tree pair.called (plain pair.second pair.right).tree args)
  unfolding pair_arguments
  args_of n pair xs next args are asks stop =
      let found = arguments_of n fs wanted 1 xs next pair.called.text args are asks stop in (
        max (pair_run pair).height found.0,
        mapped_of (arguments n fs wanted 1) (paren_made pair) xs next
            (record { tree = args; height = found.0 }) found.1,
      )

  -- no further infix name stands behind the arguments
  args_end : (n : ℕ) (xs : List Lexeme) (next : Option Lexeme) (args : List FullPat) → AreAtpats n fs xs next args
      → begins (λ x. is_some (bare_operator fs wanted x)) next ≡ false
      → begins (λ x. is_some (bare_operator fs wanted x)) (head_or xs next) ≡ false
  args_end n xs next [] nil quiet =
      subst (λ (l : List Lexeme). begins (λ x. is_some (bare_operator fs wanted x)) (head_or l next) ≡ false)
      (sym nil) quiet
  args_end n xs next (pat ∷ pats) are quiet = args_start n fs wanted xs next (pat ∷ pats) are (omega arith)

  open_kind : (n : ℕ) (x : Lexeme) (xs : List Lexeme) (next : Option Lexeme) (made : Tall FullHead) (kind : LexemeKind)
      → word_in kind ≡ Some w.Open → Phrase (parens_head n fs wanted (at x)) xs next made
      → Phrase (head_kind n fs wanted x kind) xs next made
  open_kind n x xs next made (lexeme.Reserved text) is h =
      subst (λ (found : Option Word). Phrase (head_word n fs wanted x found) xs next made) (sym is) h
  open_kind n x xs next made (lexeme.Name parts) is h = absurd (cc)
  open_kind n x xs next made (lexeme.TyVar text) is h = absurd (cc)
  open_kind n x xs next made (lexeme.Int value ok) is h = absurd (cc)
  open_kind n x xs next made (lexeme.Str text) is h = absurd (cc)
  open_kind n x xs next made (lexeme.Char byte) is h = absurd (cc)

  open_starts : (kind : LexemeKind) → word_in kind ≡ Some w.Open → may_be_infix fs wanted ≡ true
      → starts_head_kind fs wanted kind ≡ true
  open_starts (lexeme.Reserved text) is may = ap (starts_head_word fs wanted) is ∙ may
  open_starts (lexeme.Name parts) is may = absurd (cc)
  open_starts (lexeme.TyVar text) is may = absurd (cc)
  open_starts (lexeme.Int value ok) is may = absurd (cc)
  open_starts (lexeme.Str text) is may = absurd (cc)
  open_starts (lexeme.Char byte) is may = absurd (cc)

  -- two operands with an infix name between them, the closing parenthesis, and arguments
  pair_reads : (n : ℕ) (place : At) (left : Left) (z u c : Lexeme) (text : List ℕ) (bs zs : List Lexeme)
      (right : Operand)
      (next : Option Lexeme) (made : Tall FullHead) (f : Fixity) → operator_in fs wanted z ≡ Some text
      → fixity_of fs text ≡ Some f → starts_atpat fs u ≡ true → is w.Close c ≡ true
      → Phrase ((pat_level fs n).atpat u) bs (Some c) right
      → begins (λ x. is_some (bare_operator fs wanted x)) (head_or zs next) ≡ false
      → Phrase (pair_arguments n fs wanted (pair_with left (named z text) f (at u) right)) zs next made
      → Phrase (parens_from n fs wanted place left) (z ∷ u ∷ (bs ++ c ∷ zs)) next made
  unfolding parens_from pair_from pair_head
  pair_reads n place left z u c text bs zs right next made f is here second closes p quiet h =
      if_taken_of (operator_in fs wanted) named
      (λ called. pair_of n fs wanted place left called (fixity_of fs called.text))
      (either (may_be_bare fs wanted) (parens_behind n fs wanted place left) Grammar.refuse) z text (u ∷
      (bs ++ c ∷ zs)) next made
      is (subst (λ (found : Option Fixity). Phrase (pair_of n fs wanted place left (named z text) found) (u ∷
      (bs ++ c ∷ zs)) next
      made) (sym here)
      ((pair_same n fs wanted place left (named z text) f).back (u ∷ (bs ++ c ∷ zs)) next made
      (inl (
        second,
        inl (
          right,
          bs,
          c ∷ zs,
          refl,
          p,
          if_mark_of w.Close (pair_head n fs wanted place (pair_with left (named z text) f (at u) right))
              (either (may_be_bare fs wanted) (pair_behind n fs wanted place (pair_with left (named z text) f
              (at u) right)) Grammar.refuse)
              c zs next made closes
              (if_taken_or (bare_operator fs wanted) named (pair_left n fs place (pair_with left (named z text) f
              (at u) right))
              (pair_arguments n fs wanted (pair_with left (named z text) f (at u) right)) zs next made quiet h),
        ),
      ))))

  some_reads : (n : ℕ) (place : At) (y : Lexeme) (ahead rest : List Lexeme) (left : Operand) (next : Option Lexeme)
      (made : Tall FullHead) → starts_atpat fs y ≡ true → Phrase ((pat_level fs n).atpat y) ahead
      (head_or rest next) left
      → Phrase (parens_from n fs wanted place (record { first = at y; operand = left })) rest next made
      → Phrase (parens_head n fs wanted place) (y ∷ (ahead ++ rest)) next made
  unfolding parens_head parens_some
  some_reads n place y ahead rest left next made first p h = by_bare (may_be_bare fs wanted) refl
    where
      some_here : Phrase (parens_some n fs wanted place) (y ∷ (ahead ++ rest)) next made
      some_here =
          (left_same n fs (λ (left : Left). parens_from n fs wanted place left)).back (y ∷ (ahead ++ rest)) next made
          (inl (first, inl (left, ahead, rest, refl, p, h)))

      by_bare : (b : Bool) → may_be_bare fs wanted ≡ b
          → Phrase (either b (if_mark w.Close (unit_head n fs wanted place) (parens_some n fs wanted place))
          (parens_some n fs wanted place)) (y ∷ (ahead ++ rest)) next made
      by_bare true is =
          if_mark_or w.Close (unit_head n fs wanted place) (parens_some n fs wanted place) (y ∷
          (ahead ++ rest)) next made
          (not_close y first) some_here
      by_bare false is = some_here

  paren_whole : (n : ℕ) (xs : List Lexeme) (next : Option Lexeme) (left : FullPat) (called : Name) (right : FullPat)
      (args : List FullPat) → IsParenInfix n fs xs next left called right args
      → IsAsked wanted (form.ParenInfix left called right args) → begins (starts_atpat fs) next ≡ false
      → begins (λ x. is_some (bare_operator fs wanted x)) next ≡ false
      → IsTree (head n fs wanted) xs next (form.ParenInfix left called right args)
  paren_whole n xs next left called right args (
    opening,
    ys,
    close,
    zs,
    split,
    open_here,
    (ahead, z, bs, parts, before, vid, infix_here, behind),
    close_here,
    are,
  )
      asked stop quiet =
      let asks = asks_paren wanted left right called args asked in
      let may = asks_paren_infix fs wanted left right called args infix_here asked in
      let one = atom_in n fs ahead (Some z) left before in
      let two = atom_in n fs bs (Some close) right behind in
      let f = some_of (fixity_of fs called.text) infix_here in
      let first : Left = record { first = at one.first; operand = one.operand } in
      let found = args_of n (pair_with first (named z called.text) f.0
      (at two.first) two.operand) zs next args are asks stop in
      let tree : FullHead =
      form.ParenInfix (plain (at one.first) one.operand).tree (named z called.text) (plain
      (at two.first) two.operand).tree args in
      let made : Tall FullHead = record { tree = tree; height = found.0 } in
      let text : List Lexeme = one.first ∷ (one.rest ++ z ∷ two.first ∷ (two.rest ++ close ∷ zs)) in
      let same : tree ≡ form.ParenInfix left called right args =
      ap₂ (λ (left : FullPat) (called : Name). form.ParenInfix left called (plain (at two.first) two.operand).tree args)
      (sym one.tree) (sym vid.1) ∙ ap (λ (right : FullPat). form.ParenInfix left called right args) (sym two.tree) in
      let whole : xs ≡ opening ∷ text =
      split ∙ ap (λ (l : List Lexeme). opening ∷ (l ++ close ∷ zs))
      (parts ∙ ap₂ (λ (a b : List Lexeme). a ++ z ∷ b) one.written two.written)
      ∙ ap (λ (l : List Lexeme). opening ∷ one.first ∷ l)
      (append_assoc one.rest (z ∷ (two.first ∷ two.rest)) (close ∷ zs)) in
      let word_here = word_is w.Open opening open_here in
      subst (λ (l : List Lexeme). IsTree (head n fs wanted) l next (form.ParenInfix left called right args)) (sym whole)
      (subst (IsTree (head n fs wanted) (opening ∷ text) next) same (
        found.0,
        begun_of (starts_head fs wanted) (λ x. head_after n fs wanted x) opening text next made
            (ap₂ ◌&&◌ (starts_by fs opening w.Open word_here) (open_starts opening.kind word_here may))
            (open_kind n opening text next made opening.kind word_here
            (some_reads n (at opening) one.first one.rest (z ∷ two.first ∷
            (two.rest ++ close ∷ zs)) one.operand next made one.starts
            one.reads
            (pair_reads n (at opening) first z two.first close called.text two.rest zs two.operand next made f.0
            (operator_of fs wanted z called.text vid.0 infix_here asks.may) f.1 two.starts close_here two.reads
            (args_end n zs next args are quiet) found.1))),
      ))

  -- what is of a form is read, where nothing stands behind it that would go on
  pub head_whole : (n : ℕ) (xs : List Lexeme) (next : Option Lexeme) (made : FullHead) → IsHead n fs xs next made
      → IsAsked wanted made → begins (starts_atpat fs) next ≡ false
      → begins (λ x. is_some (bare_operator fs wanted x)) next ≡ false → IsTree (head n fs wanted) xs next made
  head_whole n xs next (form.Prefix called args) is asked stop quiet = prefix_whole n xs next called args is asked stop
  head_whole n xs next (form.Infix left called right) is asked stop quiet =
      infix_whole n xs next left called right is asked
  head_whole n xs next (form.ParenInfix left called right args) is asked stop quiet =
      paren_whole n xs next left called right args is asked stop quiet

-- a mark is no infix name
behind_quiet : (fs : Fixities) (wanted : Wanted) (x : Lexeme) → IsBehindHead x
    → is_some (bare_operator fs wanted x) ≡ false
behind_quiet fs wanted x (inl is) = word_quiet fs wanted x w.Colon (word_is w.Colon x is)
behind_quiet fs wanted x (inr is) = word_quiet fs wanted x w.Equals (word_is w.Equals x is)

pub heads_of_forms : HeadsAreOfTheForms
heads_of_forms most fs wanted lexemes next made some behind = (
  (λ h. head_form fs wanted some most lexemes (Some next) made h),
  (λ both. head_whole fs wanted some most lexemes (Some next) made both.0 both.1 (behind_starts fs next behind)
      (behind_quiet fs wanted next behind)),
)
