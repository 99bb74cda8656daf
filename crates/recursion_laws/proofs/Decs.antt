-- What is bound in each declaration of the core is so, and so in all phrases of the core, level by level.
use Rattle.std.proofs.Common.{◌≡◌, ℕ, zero, suc, ◌<◌, ◌≤◌, List, [], ◌∷◌, ◌++◌, map, length, Option, Some, Bool, true, false, ◌==◌, if◌then◌else◌, nat_lt, refl, sym, ap, ◌∙◌, subst, arith, rules}
use Rattle.std.proofs.lemmas.List.{map-append}
use Rattle.std.specs.List.{list_all}
use Rattle.sml_lexer.specs.declared.lexeme.Lexeme.{Lexeme}
use Rattle.sml_trees.specs.declared.full_exp.FullClause.{FullClause, out-FullClause}
use Rattle.sml_trees.specs.declared.full_exp.FullDec.{FullDec, roll-FullDec}
use Rattle.sml_trees.specs.declared.full_exp.FullDec.TheOpen.{FullDec-F, FullExp-F}
use Rattle.sml_trees.specs.declared.full_exp.FullDec.TheFolds.{map-FullDec}
use Rattle.sml_trees.specs.declared.full_exp.FullDec.TheVariants as d
use Rattle.sml_trees.specs.declared.full_exp.FullExp.{FullExp}
use Rattle.sml_trees.specs.declared.full_exp.FullExp.TheVariants as e
use Rattle.sml_trees.specs.declared.full_exp.FullExpItem.{FullExpItem}
use Rattle.sml_trees.specs.declared.full_exp.FullExpField.{FullExpField}
use Rattle.sml_trees.specs.declared.full_exp.FullFunBind.{FullFunBind}
use Rattle.sml_trees.specs.declared.full_exp.FullHead.{FullHead}
use Rattle.sml_trees.specs.declared.full_exp.FullHead.TheVariants as h
use Rattle.sml_trees.specs.declared.full_exp.FullRule.{FullRule}
use Rattle.sml_trees.specs.declared.full_exp.FullValBind.{FullValBind, out-FullValBind, roll-FullValBind, out-roll-FullValBind}
use Rattle.sml_trees.specs.declared.full_pat.FullPat.{FullPat}
use Rattle.sml_trees.specs.declared.name.At.{At}
use Rattle.sml_trees.specs.declared.name.Name.{Name}
use Rattle.infix_names.specs.Fixities.{Fixities}
use Rattle.core_bindings.specs.Bindings.{type_dec, datatypes, replication, has_none, datatype_from, datatype_dec, exception_dec, open_dec, infix_tree, infix_dec, nonfix_dec}
use Rattle.core_bindings.specs.Decs.{plain}
use Rattle.clause_heads.specs.Heads.{wanted_by}
use Rattle.clause_heads.specs.declared.heads.Wanted.{Wanted}
use Rattle.clause_heads.specs.declared.heads.Wanted.TheVariants as wanted
use Rattle.core_expressions.specs.Level.{Level}
use Rattle.core_expressions.specs.Levels.{no_level, level_of, below, level}
use Rattle.core_expressions.specs.Clauses.{clause_of, clause, function_by, function_from, function_of, function, fun_from, fun_of, fun_vars, fun_head, fun_parens, fun_dec}
use Rattle.core_expressions.specs.Declarations.{local_dec, dec_word, dec_of, next_dec, decs_from, decs_of}
use Rattle.core_expressions.specs.Expressions.{constraints, constraint}
use Rattle.core_expressions.specs.Values.{recs_from, bound_exp, val_bind_of, val_bind, with_bind, val_binds_from, val_from, val_of, val_vars, val_pat, val_parens, val_dec, fn_parens, fn_exp_of}
use Rattle.core_expressions.specs.declared.binds.Binds.{Binds}
use Rattle.core_types.specs.Types.{ty}
use Rattle.phrase_reading.specs.Names.{either}
use Rattle.phrase_reading.specs.Sized.{one, more, further}
use Rattle.phrase_reading.specs.Words.{g, at, is, word}
use Rattle.phrase_reading.specs.declared.tall.Tall.{Tall}
use Rattle.sml_lexer.specs.declared.words.Word.{Word}
use Rattle.sml_lexer.specs.declared.words.Word.TheVariants as w
use Rattle.level_laws.proofs.Keeping.{Keeps, keep_pure, keep_refuse, keep_bind, keep_then, keep_within, keep_many, keep_none, keep_if_taken, keep_if_mark, keep_if_marked, keep_either, keep_weak}
use Rattle.clause_laws.specs.Forms.{HasArgument}
use Rattle.clause_laws.proofs.HeadForms.{head_keeps, parens_keep}
use Rattle.recursion_laws.specs.Functions.{ExpFacts, BindFacts, ClauseFacts, has_some, is_sound, is_sound_bind, is_function_bind, is_sound_clause, takes_argument, recs_bind_functions, first_takes, dec_step, dec_binds, exp_binds, item_binds, clause_binds, field_binds, fun_binds, rule_binds, val_binds}
use Rattle.recursion_laws.proofs.Forms.{dec_form, exp_form, clause_form, fun_form, val_form, both_true, first_true, second_true, AllPass, one_passes, more_pass}
use Rattle.recursion_laws.proofs.Exps.{passes, ExpIs, FnIs, DecsAre, LevelIs, further_pass, opened_atexp_keeps, behind_keeps, fn_keeps, operand_of_keeps, conjunction_of_keeps, exp_of_keeps}

abbrev DecIs : Tall FullDec → Type 0
DecIs made = dec_binds made.tree ≡ true

-- a declaration of this form
dec_is : (x : FullDec-F FullDec FullExp FullExpItem FullClause FullExpField FullFunBind FullRule FullValBind)
    (tree : FullDec) → roll-FullDec x ≡ tree
    → dec_step (map-FullDec _ _ _ _ _ _ _ _ _ _ _ _ _ _ _ _ dec_binds exp_binds item_binds clause_binds field_binds fun_binds rule_binds val_binds x) ≡ true
    → dec_binds tree ≡ true
dec_is x tree e h = dec_form x tree e ∙ h

-- one of two, by a test whose answer is known
keep_by : {A : Type 0} (test : Bool) {go or : g A} {P : A → Type 0} → (test ≡ true → Keeps go P)
    → (test ≡ false → Keeps or P) → Keeps (either test go or) P
keep_by true first second = first refl
keep_by false first second = second refl

-- ---- declarations without expressions

types_keep : (place : At) (tys : g (Tall _)) → Keeps (type_dec tys place) DecIs
unfolding type_dec
types_keep place tys =
    keep_then (λ first. keep_then (λ found. keep_pure _ (dec_is (FullDec-F.Types found.tree place) _
    (d.rolls-Types found.tree place) refl)))

datatypes_keep : (place : At) (tys : g (Tall _)) (vars : List Name) (called : Name)
    → Keeps (datatypes tys place vars called) DecIs
unfolding datatypes
datatypes_keep place tys vars called =
    keep_then (λ first. keep_then (λ found. keep_pure _ (dec_is (FullDec-F.Datatypes found.tree place) _
    (d.rolls-Datatypes found.tree place) refl)))

datatype_keeps : (place : At) (tys : g (Tall _)) → Keeps (datatype_dec tys place) DecIs
unfolding datatype_dec datatype_from replication
datatype_keeps place tys =
    keep_then (λ vars. keep_then (λ called. keep_then (λ _. keep_either (has_none vars)
    (λ _. keep_if_mark _ (keep_then (λ original. keep_pure _ (dec_is (FullDec-F.Replication called original place) _
    (d.rolls-Replication called original place) refl)))
    (datatypes_keep place tys vars called))
    (datatypes_keep place tys vars called))))

exceptions_keep : (place : At) (tys : g (Tall _)) → Keeps (exception_dec tys place) DecIs
unfolding exception_dec
exceptions_keep place tys =
    keep_then (λ first. keep_then (λ found. keep_pure _ (dec_is (FullDec-F.Exceptions found.tree place) _
    (d.rolls-Exceptions found.tree place) refl)))

open_keeps : (place : At) → Keeps (open_dec place) DecIs
unfolding open_dec
open_keeps place =
    keep_then (λ first. keep_then (λ found.
    keep_pure _ (dec_is (FullDec-F.Open found place) _ (d.rolls-Open found place) refl)))

-- ---- lists of declarations

plain_keeps : {grammar : g (Tall FullDec)} (fs : Fixities) → Keeps grammar DecIs → Keeps (plain fs grammar) DecsAre
unfolding plain
plain_keeps fs each = keep_bind each (λ found is. keep_pure _ (one_passes passes dec_binds found.tree is))

infix_is : (right : Bool) (strength : Option ℕ) (names : List Name) (place : At)
    → dec_binds (infix_tree right strength names place) ≡ true
infix_is true strength names place =
    dec_is (FullDec-F.Infixr strength names place) _ (d.rolls-Infixr strength names place) refl
infix_is false strength names place =
    dec_is (FullDec-F.Infix strength names place) _ (d.rolls-Infix strength names place) refl

infix_keeps : (fs : Fixities) (place : At) (right : Bool) → Keeps (infix_dec fs place right) DecsAre
unfolding infix_dec
infix_keeps fs place right =
    keep_then (λ strength. keep_then (λ found.
    keep_pure _ (one_passes passes dec_binds _ (infix_is right strength found place))))

nonfix_keeps : (fs : Fixities) (place : At) → Keeps (nonfix_dec fs place) DecsAre
unfolding nonfix_dec
nonfix_keeps fs place =
    keep_then (λ found. keep_pure _ (one_passes passes dec_binds _
    (dec_is (FullDec-F.Nonfix found place) _ (d.rolls-Nonfix found place) refl)))

-- ---- `rec`

abbrev no_rec : BindFacts → Bool
no_rec bind = bind.recs == 0

-- by one test
by_test : (b p q r s : Bool) → (p ≡ true → r ≡ true) → (q ≡ true → s ≡ true) → (if b then p else q) ≡ true
    → (if b then r else s) ≡ true
by_test true p q r s f g h = f h
by_test false p q r s f g h = g h

where_so : (b p q : Bool) → b ≡ true → p ≡ true → (if b then p else q) ≡ true
where_so true p q h i = i
where_so false p q h i = absurd (cc)

at_last : (b q : Bool) → q ≡ true → (if b then true else q) ≡ true
at_last true q h = refl
at_last false q h = h

all_more : (binds : List BindFacts) (bind : BindFacts) → bind.function ≡ true → list_all is_function_bind binds ≡ true
    → list_all is_function_bind (binds ++ bind ∷ []) ≡ true
all_more [] bind is h = both_true bind.function true is refl
all_more (b ∷ bs) bind is h = both_true b.function (list_all is_function_bind (bs ++ bind ∷ []))
    (first_true b.function (list_all is_function_bind bs) h)
    (all_more bs bind is (second_true b.function (list_all is_function_bind bs) h))

-- one more binding of a function
function_more : (binds : List BindFacts) (bind : BindFacts) → bind.function ≡ true → recs_bind_functions binds ≡ true
    → recs_bind_functions (binds ++ bind ∷ []) ≡ true
function_more [] bind is are = at_last (bind.recs == 0) (list_all is_function_bind (bind ∷ [])) (all_more [] bind is refl)
function_more (first ∷ binds) bind is are =
    by_test (first.recs == 0) (recs_bind_functions binds) (list_all is_function_bind (first ∷ binds))
    (recs_bind_functions (binds ++ bind ∷ [])) (list_all is_function_bind (first ∷ binds ++ bind ∷ []))
    (λ h. function_more binds bind is h) (λ h. all_more (first ∷ binds) bind is h) are

-- one more without `rec` behind such ones
plain_more : (binds : List BindFacts) (bind : BindFacts) → list_all no_rec binds ≡ true → no_rec bind ≡ true
    → recs_bind_functions (binds ++ bind ∷ []) ≡ true
plain_more [] bind none is = where_so (bind.recs == 0) true (list_all is_function_bind (bind ∷ [])) is refl
plain_more (first ∷ binds) bind none is =
    where_so (first.recs == 0) (recs_bind_functions (binds ++ bind ∷ []))
    (list_all is_function_bind (first ∷ binds ++ bind ∷ [])) (first_true (no_rec first) (list_all no_rec binds) none)
    (plain_more binds bind (second_true (no_rec first) (list_all no_rec binds) none) is)

-- a binding behind so many `rec`
record BindIs (before : ℕ) (made : Tall FullValBind) : Type 0 where
  recs : (val_binds made.tree).recs ≡ (out-FullValBind made.tree).recs
  later : before ≤ (out-FullValBind made.tree).recs
  sound : (val_binds made.tree).sound ≡ true
  function : 0 < (out-FullValBind made.tree).recs → (val_binds made.tree).function ≡ true

-- bindings so far
record BindsAre (binds : Binds) : Type 0 where
  sound : AllPass is_sound_bind val_binds binds.found.tree
  functions : recs_bind_functions (map val_binds binds.found.tree) ≡ true
  none : binds.recs ≡ 0 → list_all no_rec (map val_binds binds.found.tree) ≡ true

-- what the next one adds, by the number of `rec` before it
next_functions : (found : List BindFacts) (next : BindFacts) (before recs : ℕ) → next.recs ≡ recs → before ≤ recs
    → (0 < recs → next.function ≡ true) → recs_bind_functions found ≡ true
    → (before ≡ 0 → list_all no_rec found ≡ true) → recs_bind_functions (found ++ next ∷ []) ≡ true
next_functions found next before zero e low function are none =
    plain_more found next (none (omega (arith, low))) (ap (λ (n : ℕ). n == 0) e)
next_functions found next before (suc recs) e low function are none =
    function_more found next (function (omega arith)) are

no_rec_more : (found : List BindFacts) (next : BindFacts) → list_all no_rec found ≡ true → no_rec next ≡ true
    → list_all no_rec (found ++ next ∷ []) ≡ true
no_rec_more [] next none is = both_true (no_rec next) true is refl
no_rec_more (first ∷ found) next none is =
    both_true (no_rec first) (list_all no_rec (found ++ next ∷ []))
    (first_true (no_rec first) (list_all no_rec found) none)
    (no_rec_more found next (second_true (no_rec first) (list_all no_rec found) none) is)

binds_more : (binds : Binds) (next : Tall FullValBind) → BindsAre binds → BindIs binds.recs next
    → BindsAre (with_bind binds next)
binds_more binds next are is =
    let joined : map val_binds (binds.found.tree ++ next.tree ∷ []) ≡ map val_binds binds.found.tree ++ val_binds next.tree ∷ [] =
    map-append val_binds binds.found.tree (next.tree ∷ []) in
    record {
      sound = more_pass is_sound_bind val_binds binds.found.tree (next.tree ∷ []) are.sound
          (one_passes is_sound_bind val_binds next.tree is.sound);
      functions = ap recs_bind_functions joined
          ∙ next_functions (map val_binds binds.found.tree) (val_binds next.tree) binds.recs
          (out-FullValBind next.tree).recs is.recs is.later is.function are.functions are.none;
      none = λ e. ap (list_all no_rec) joined
          ∙ no_rec_more (map val_binds binds.found.tree) (val_binds next.tree)
          (are.none (let low = is.later in omega (arith, low, e))) (ap (λ (n : ℕ). n == 0) (is.recs ∙ e));
    }

binds_one : (first : Tall FullValBind) → BindIs 0 first
    → BindsAre (record { found = one first; recs = (out-FullValBind first.tree).recs })
binds_one first is = record {
  sound = one_passes is_sound_bind val_binds first.tree is.sound;
  functions = next_functions [] (val_binds first.tree) 0 (out-FullValBind first.tree).recs is.recs is.later is.function
      refl (λ e. refl);
  none = λ e. both_true (no_rec (val_binds first.tree)) true (ap (λ (n : ℕ). n == 0) (is.recs ∙ e)) refl;
}

recs_keep : (before : ℕ) → Keeps (recs_from before) (λ recs. before ≤ recs)
unfolding recs_from
recs_keep before = keep_many (λ recs x low. keep_pure _ (omega (arith, low))) before (omega arith)

-- a right side
record RightIs (recs : ℕ) (made : Tall FullExp) : Type 0 where
  sound : ExpIs made
  function : nat_lt 0 recs ≡ true → (exp_binds made.tree).function ≡ true

-- ---- heads

-- a head with an argument takes one
some_taken : {A : Type 0} (xs : List A) → 0 < length xs → has_some xs ≡ true
some_taken [] h = absurd (omega (arith, h))
some_taken (x ∷ xs) h = refl

head_takes : (head : FullHead) → HasArgument head → takes_argument head ≡ true
head_takes (h.Prefix called args) is = some_taken args is
head_takes (h.Infix left called right) is = refl
head_takes (h.ParenInfix left called right args) is = refl

-- clauses of which the first takes an argument
record ClausesAre (found : Tall (List FullClause)) : Type 0 where
  takes : first_takes (map clause_binds found.tree) ≡ true
  sound : AllPass is_sound_clause clause_binds found.tree

first_more : (xs ys : List FullClause) → first_takes (map clause_binds xs) ≡ true
    → first_takes (map clause_binds (xs ++ ys)) ≡ true
first_more [] ys h = absurd (cc)
first_more (x ∷ xs) ys h = h

abbrev bind_tree : ℕ → FullPat → FullExp → At → FullValBind
bind_tree recs pat exp place = roll-FullValBind (record { recs = recs; pat = pat; exp = exp; at = place })

bind_is : (before recs : ℕ) (place : At) (pat : FullPat) (exp : Tall FullExp) (height : ℕ) → before ≤ recs
    → RightIs recs exp → BindIs before (record { tree = bind_tree recs pat exp.tree place; height = height })
bind_is before recs place pat exp height low so =
    let out : (out-FullValBind (bind_tree recs pat exp.tree place)).recs ≡ recs =
    ap (λ bind. bind.recs) (out-roll-FullValBind (record { recs = recs; pat = pat; exp = exp.tree; at = place })) in
    let facts = val_form (record { recs = recs; pat = pat; exp = exp.tree; at = place }) in
    record {
      recs = ap (λ (bind : BindFacts). bind.recs) facts ∙ sym out;
      later = subst (λ (n : ℕ). before ≤ n) (sym out) low;
      sound = ap (λ (bind : BindFacts). bind.sound) facts ∙ so.sound;
      function = λ some. ap (λ (bind : BindFacts). bind.function) facts
          ∙ so.function (let there : 0 < recs = subst (λ (n : ℕ). 0 < n) out some in search rules);
    }

-- ---- over phrases of one level less

module _ (n : ℕ) (parts : Level) (it : LevelIs parts) where
  right_keeps : (fs : Fixities) (recs : ℕ) → Keeps (bound_exp parts fs recs) (RightIs recs)
  unfolding bound_exp
  right_keeps fs recs =
      keep_then (λ _. keep_by (nat_lt 0 recs)
      (λ _. keep_weak (it.fn_exp fs) (λ made is. record {
        sound = is.sound;
        function = λ h. is.function;
      }))
      (λ no. keep_weak (it.exp fs) (λ made is. record {
        sound = is;
        function = λ h. absurd (cc);
      })))

  val_bind_of_keeps : (fs : Fixities) (before recs : ℕ) (place : At) (pat : Tall FullPat) → before ≤ recs
      → Keeps (val_bind_of parts fs recs place pat) (BindIs before)
  unfolding val_bind_of
  val_bind_of_keeps fs before recs place pat low =
      keep_bind (right_keeps fs recs) (λ exp so. keep_pure _ (bind_is before recs place pat.tree exp _ low so))

  val_bind_keeps : (fs : Fixities) (before : ℕ) → Keeps (val_bind parts fs before) (BindIs before)
  unfolding val_bind
  val_bind_keeps fs before =
      keep_bind (recs_keep before) (λ recs low. keep_then (λ x. keep_then (λ pat.
      val_bind_of_keeps fs before recs (at x) pat low)))

  val_from_keeps : (fs : Fixities) (place : At) (vars : List Name) (first : Tall FullValBind) → BindIs 0 first
      → Keeps (val_from parts fs place vars first) DecIs
  unfolding val_from val_binds_from
  val_from_keeps fs place vars first is =
      keep_bind {P = BindsAre}
      (keep_many (λ binds x so. keep_bind (val_bind_keeps fs binds.recs) (λ next too.
      keep_pure _ (binds_more binds next so too))) _ (binds_one first is))
      (λ binds are. keep_pure _ (dec_is (FullDec-F.Val vars binds.found.tree place) _
      (d.rolls-Val vars binds.found.tree place) (both_true _ _ are.functions are.sound)))

  val_of_keeps : (fs : Fixities) (place : At) (vars : List Name) → Keeps (val_of parts fs place vars) DecIs
  unfolding val_of
  val_of_keeps fs place vars = keep_bind (val_bind_keeps fs 0) (λ first is. val_from_keeps fs place vars first is)

  val_keeps : (fs : Fixities) (place : At) → Keeps (val_dec parts fs place) DecIs
  unfolding val_dec val_parens val_vars val_pat
  val_keeps fs place =
      keep_if_taken _ _ (λ var. val_of_keeps fs place (var ∷ []))
      (keep_if_marked _ (λ x. keep_if_taken _ _ (λ var. keep_then (λ vars. val_of_keeps fs place vars))
      (keep_then (λ pat. keep_bind (val_bind_of_keeps fs 0 0 (at x) pat (omega arith)) (λ first so.
      val_from_keeps fs place [] first so))))
      (val_of_keeps fs place []))

  -- a clause, whose head is this one
  clause_of_keeps : (fs : Fixities) (start : At) (head : Tall FullHead)
      → Keeps (clause_of n parts fs start head) (λ made. clause_binds made.tree
      ≡ record { takes = takes_argument head.tree; sound = true })
  unfolding clause_of
  clause_of_keeps fs start head =
      keep_then (λ result. keep_bind (behind_keeps n parts it fs w.Equals) (λ body so. keep_pure _
      (clause_form (record { head = head.tree; ty = result.tree; body = body.tree; at = start })
      ∙ ap (λ (sound : Bool). (let x : ClauseFacts = record { takes = takes_argument head.tree; sound = sound } in x)) so)))

  clause_keeps : (fs : Fixities) (wanted : Wanted)
      → Keeps (clause n parts fs wanted) (λ made. is_sound_clause (clause_binds made.tree) ≡ true)
  unfolding clause
  clause_keeps fs wanted =
      keep_then (λ x. keep_then (λ head. keep_weak (clause_of_keeps fs (at x) head)
      (λ made is. ap is_sound_clause is)))

  function_of_keeps : (fs : Fixities) (start : At) (head : Tall FullHead) → HasArgument head.tree
      → Keeps (function_of n parts fs start head) (λ made. fun_binds made.tree ≡ true)
  unfolding function_of function_from function_by further
  function_of_keeps fs start head takes =
      keep_bind (clause_of_keeps fs start head) (λ first so.
      keep_bind {P = ClausesAre} (keep_many (λ found x are.
      keep_bind (clause_keeps fs (wanted_by (out-FullClause first.tree).head)) (λ next too. keep_pure (more found next) (record {
        takes = first_more found.tree (next.tree ∷ []) are.takes;
        sound = more_pass is_sound_clause clause_binds found.tree (next.tree ∷ []) are.sound
            (one_passes is_sound_clause clause_binds next.tree too);
      }))) (one first) (record {
        takes = ap (λ (clause : ClauseFacts). clause.takes) so ∙ head_takes head.tree takes;
        sound = one_passes is_sound_clause clause_binds first.tree (ap is_sound_clause so);
      }))
      (λ clauses are. keep_pure _ (fun_form (record { clauses = clauses.tree; at = start })
      ∙ both_true _ _ are.takes are.sound)))

  function_keeps : (fs : Fixities) → Keeps (function n parts fs) (λ made. fun_binds made.tree ≡ true)
  unfolding function
  function_keeps fs =
      keep_then (λ x. keep_bind (head_keeps n fs wanted.Any x) (λ head is. function_of_keeps fs (at x) head is.1))

  fun_from_keeps : (fs : Fixities) (place : At) (vars : List Name) (first : Tall FullFunBind)
      → fun_binds first.tree ≡ true → Keeps (fun_from n parts fs place vars first) DecIs
  unfolding fun_from
  fun_from_keeps fs place vars first is =
      keep_bind (further_pass passes fun_binds w.And (one first) (function_keeps fs) (one_passes passes fun_binds first.tree is))
      (λ found are. keep_pure _ (dec_is (FullDec-F.Fun vars found.tree place) _ (d.rolls-Fun vars found.tree place) are))

  fun_of_keeps : (fs : Fixities) (place : At) (vars : List Name) → Keeps (fun_of n parts fs place vars) DecIs
  unfolding fun_of
  fun_of_keeps fs place vars = keep_bind (function_keeps fs) (λ first is. fun_from_keeps fs place vars first is)

  fun_keeps : (fs : Fixities) (place : At) → Keeps (fun_dec n parts fs place) DecIs
  unfolding fun_dec fun_parens fun_vars fun_head
  fun_keeps fs place =
      keep_if_taken _ _ (λ var. fun_of_keeps fs place (var ∷ []))
      (keep_if_marked _ (λ x. keep_if_taken _ _ (λ var. keep_then (λ vars. fun_of_keeps fs place vars))
      (keep_bind (parens_keep n fs wanted.Any (at x)) (λ head is.
      keep_bind (function_of_keeps fs (at x) head is.1) (λ first so. fun_from_keeps fs place [] first so))))
      (fun_of_keeps fs place []))

  local_keeps : (fs : Fixities) (place : At) → Keeps (local_dec parts fs place) DecsAre
  unfolding local_dec
  local_keeps fs place =
      keep_bind (it.decs fs) (λ hidden is. keep_then (λ _. keep_bind (it.decs hidden.fixities) (λ shown so.
      keep_then (λ _. keep_pure _ (one_passes passes dec_binds _ (dec_is (FullDec-F.Local hidden.decs shown.decs place) _
      (d.rolls-Local hidden.decs shown.decs place) (both_true _ _ is so)))))))

  pub dec_word_keeps : (fs : Fixities) (place : At) (found : Option Word) → Keeps (dec_word n parts fs place found) DecsAre
  dec_word_keeps fs place (Some w.Val) = plain_keeps fs (val_keeps fs place)
  dec_word_keeps fs place (Some w.Fun) = plain_keeps fs (fun_keeps fs place)
  dec_word_keeps fs place (Some w.TypeWord) = plain_keeps fs (types_keep place (ty n))
  dec_word_keeps fs place (Some w.Datatype) = plain_keeps fs (datatype_keeps place (ty n))
  dec_word_keeps fs place (Some w.Exception) = plain_keeps fs (exceptions_keep place (ty n))
  dec_word_keeps fs place (Some w.Local) = local_keeps fs place
  dec_word_keeps fs place (Some w.OpenWord) = plain_keeps fs (open_keeps place)
  dec_word_keeps fs place (Some w.Infix) = infix_keeps fs place false
  dec_word_keeps fs place (Some w.Infixr) = infix_keeps fs place true
  dec_word_keeps fs place (Some w.Nonfix) = nonfix_keeps fs place
  dec_word_keeps fs place _ = keep_refuse

  fn_constraints : (place : At) (first : Tall FullExp) → FnIs first → Keeps (constraints n parts place first) FnIs
  unfolding constraints constraint
  fn_constraints place first is =
      keep_many (λ left x so. keep_within (λ _. keep_then (λ ty. keep_pure _ (record {
        function = ap (λ (facts : ExpFacts). facts.function)
            (exp_form (FullExp-F.Typed left.tree ty.tree place) _ (e.rolls-Typed left.tree ty.tree place)) ∙ so.function;
        sound = ap is_sound
            (exp_form (FullExp-F.Typed left.tree ty.tree place) _ (e.rolls-Typed left.tree ty.tree place)) ∙ so.sound;
      })))) first is

  fn_exp_keeps : (fs : Fixities) → Keeps (fn_exp_of n parts fs) FnIs
  unfolding fn_exp_of fn_parens
  fn_exp_keeps fs =
      keep_if_marked _ (λ x. keep_within (λ _. fn_keeps n parts it fs (at x)))
      (keep_if_marked _ (λ x. keep_within (λ _. keep_bind (it.fn_exp fs) (λ inner is. keep_then (λ _.
      fn_constraints (at x) _ (record {
        function = ap (λ (facts : ExpFacts). facts.function)
            (exp_form (FullExp-F.Paren inner.tree (at x)) _ (e.rolls-Paren inner.tree (at x))) ∙ is.function;
        sound = ap is_sound (exp_form (FullExp-F.Paren inner.tree (at x)) _ (e.rolls-Paren inner.tree (at x))) ∙ is.sound;
      }))))) keep_refuse)

-- ---- sequences

decs_keep : (n : ℕ) (parts : Level) → ((fs : Fixities) (x : Lexeme) → Keeps (dec_of n parts fs x) DecsAre)
    → (fs : Fixities) → Keeps (decs_of n parts fs) DecsAre
unfolding decs_from next_dec
decs_keep n parts each fs =
    keep_many (λ found x are. keep_either (is w.Semicolon x) (λ _. keep_pure found are)
    (keep_bind (each found.fixities x) (λ next too.
    keep_pure _ (more_pass passes dec_binds found.decs next.decs are too)))) _ refl

-- ---- levels

-- no phrase is read where no level is left
none_is : LevelIs no_level
none_is = record {
  exp = λ fs. keep_refuse;
  conjunction = λ fs. keep_refuse;
  operand = λ fs. keep_refuse;
  atexp = λ fs x. keep_refuse;
  fn_exp = λ fs. keep_refuse;
  decs = λ fs. keep_refuse;
  dec = λ fs x. keep_refuse;
}

dec_of_keeps : (n : ℕ) (parts : Level) → LevelIs parts → (fs : Fixities) (x : Lexeme)
    → Keeps (dec_of n parts fs x) DecsAre
dec_of_keeps zero parts it fs x = keep_none
dec_of_keeps (suc n) parts it fs x = dec_word_keeps n parts it fs (at x) (word x)

-- all phrases of the core with so many levels, over those of one level less
over_is : (n : ℕ) (parts : Level) → LevelIs parts → LevelIs (level_of n parts)
over_is n parts it = record {
  exp = λ fs. exp_of_keeps n parts it fs;
  conjunction = λ fs. conjunction_of_keeps n parts it fs;
  operand = λ fs. operand_of_keeps n parts it fs;
  atexp = λ fs x. opened_atexp_keeps n parts it fs x;
  fn_exp = λ fs. fn_exp_keeps n parts it fs;
  decs = λ fs. decs_keep n parts (dec_of_keeps n parts it) fs;
  dec = λ fs x. dec_of_keeps n parts it fs x;
}

below_is : (n : ℕ) → LevelIs (below n)
unfolding below
below_is zero = none_is
below_is (suc n) = over_is n (below n) (below_is n)

pub core_is : (n : ℕ) → LevelIs (level n)
core_is n = over_is n (below n) (below_is n)
