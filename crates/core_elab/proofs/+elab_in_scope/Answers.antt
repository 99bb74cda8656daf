use Rattle.bare_phrases.proofs.Forms.{exp_phrase-Int, exp_phrase-Str, exp_phrase-Char, exp_phrase-Long, exp_phrase-Record, exp_phrase-App, exp_phrase-Typed, exp_phrase-Handle, exp_phrase-Raise, exp_phrase-Fn, exp_phrase-Let, dec_phrase-Val, dec_phrase-Types, dec_phrase-Datatypes, dec_phrase-Replication, dec_phrase-Exceptions, dec_phrase-Local, dec_phrase-Open, dec_phrase-Sequence, rule_phrase-kept}
use Rattle.bare_phrases.specs.PhraseOf.{ty_phrase, typ_phrase, dat_phrase, ex_phrase, dec_phrase, dec_phrases, exp_phrase, exp_field_phrase, exp_fields, rule_phrase, rules_of, pat_phrase}
use Rattle.bare_phrases.specs.Phrases.{ExpPhrase, DecPhrase}
use Rattle.cm_base.specs.declared.fault.Fault.TheVariants as fault
use Rattle.core_rules.proofs.Binding.{binds_begin, binds_end, bind_first, bind_second, bind_third, bind_memory, bind_done, bind_of, passed_on, binds_next, binds_fail}
use Rattle.core_rules.proofs.Chains.{passed, memory}
use Rattle.core_rules.proofs.Entering.{front_same}
use Rattle.core_rules.proofs.Fields.{field_first, field_second, field_done, fields_begin, fields_next, fields_fail, fields_end}
use Rattle.core_rules.proofs.MatchSteps.{rule_first, rule_second, rule_third, rule_done, match_begin, match_next, match_fails, match_ends}
use Rattle.core_rules.proofs.Parted.{as_phrase, plain, app_first, app_second, app_done, typed_first, typed_done, handle_first, handle_second, handle_done, raise_first, raise_done, fn_first, fn_done, record_first, record_done, under_done}
use Rattle.core_rules.proofs.Joining.{decs_begin, decs_ready, decs_next, decs_fail, decs_memory, decs_end, decs_all}
use Rattle.core_rules.proofs.Readying.{later, table_later, entered, own_ready, recs_ready}
use Rattle.core_rules.proofs.Declaring.{as_dec, dec_passed, dec_memory, val_declared, made_after}
use Rattle.static_semantics.specs.Inferring.{under_bound}
use Rattle.core_rules.proofs.RecBinding.{rec_first, rec_second, rec_done, rec_of, recs_begin, recs_next, recs_fail, recs_stop, recs_end, has_first}
use Rattle.core_rules.proofs.Under.{recs_under, binds_alone, val_first, val_second, val_third, val_done, val_distinct, val_front}
use Rattle.core_rules.proofs.WholeVal.{val_stops, val_whole, under_as}
use Rattle.core_rules.specs.Bindings.{IsBind, AreBinds}
use Rattle.core_rules.specs.Joined.{AreEntered}
use Rattle.core_rules.specs.Moments.{moment, scope_at}
use Rattle.pattern_elab.proofs.Scoping.{core_later}
use Rattle.pattern_elab.specs.Scopes.{scope_of, bound_of}
use Rattle.sml_trees.specs.declared.exp.Dec.{Dec}
use Rattle.sml_trees.specs.declared.exp.Rule.{out-Rule, Rule}
use Rattle.std.proofs.Common.{refl, length, sym, ap, ap₂, ◌∙◌, subst, map, [], ◌∷◌, ◌++◌, List}
use Rattle.type_nodes.specs.Tables.{Table, IsFrontOf, state}
use Rattle.sml_types.proofs.Frames.{drop_past}
use Rattle.type_phrases.proofs.PartsRead.{drop_item}
use Rattle.value_closing.specs.Groups.{groups_of}
use Rattle.core_elab.specs.Vals.{binds_of}
use Rattle.core_elab.proofs.Inside.{enters_all, enters_one, enters_memory, enters_failed, enters_as, ready_inside, inside_done, inside_second, inside_first, inside_as, inside_memory, shown_behind, shown_first, shown_as, shown_memory, body_of, local_of, let_refused, let_ended, local_refused, local_ended}
use Rattle.core_elab.specs.Inside.{Enters, IsInside, IsShown}
use Rattle.core_elab.proofs.Vals.{val_phrase, of_val, as_under, of_values, of_recs, as_recs_under, at_once, behind_phrase, of_rows}
use Rattle.core_elab.proofs.+elab_in_scope.Goals as goal

pub exp::elab_in_scope-returns-in-Int : goal.exp::elab_in_scope-returns-in-Int
exp::elab_in_scope-returns-in-Int t c =
    as_phrase (ap exp_phrase c.in-Int.is ∙ exp_phrase-Int c.in-Int.field-0 c.in-Int.at)
    (plain (moment c.args.g.now c.args.t.now c.args.scope.now) c.elab_int.new.t
    (ExpPhrase.Int c.in-Int.field-0 c.in-Int.at) c.elab_int.result c.elab_int.ensures.infers c.elab_int.ensures.has
    c.elab_int.ensures.ids c.requires.core)

pub exp::elab_in_scope-returns-in-Str : goal.exp::elab_in_scope-returns-in-Str
exp::elab_in_scope-returns-in-Str t c =
    as_phrase (ap exp_phrase c.in-Str.is ∙ exp_phrase-Str c.in-Str.field-0 c.in-Str.at)
    (plain (moment c.args.g.now c.args.t.now c.args.scope.now) c.elab_string.new.t
    (ExpPhrase.Str c.in-Str.field-0 c.in-Str.at) c.elab_string.result c.elab_string.ensures.infers c.elab_string.ensures.has
    c.elab_string.ensures.ids c.requires.core)

pub exp::elab_in_scope-returns-in-Char : goal.exp::elab_in_scope-returns-in-Char
exp::elab_in_scope-returns-in-Char t c =
    as_phrase (ap exp_phrase c.in-Char.is ∙ exp_phrase-Char c.in-Char.field-0 c.in-Char.at)
    (plain (moment c.args.g.now c.args.t.now c.args.scope.now) c.elab_char.new.t
    (ExpPhrase.Char c.in-Char.field-0 c.in-Char.at) c.elab_char.result c.elab_char.ensures.infers c.elab_char.ensures.has
    c.elab_char.ensures.ids c.requires.core)

pub exp::elab_in_scope-returns-in-Long : goal.exp::elab_in_scope-returns-in-Long
exp::elab_in_scope-returns-in-Long t c =
    as_phrase (ap exp_phrase c.in-Long.is ∙ exp_phrase-Long c.in-Long.long c.in-Long.at)
    (plain (moment c.args.g.now c.args.t.now c.args.scope.now) c.elab_long.new.t
    (ExpPhrase.Long c.in-Long.long c.in-Long.at) c.elab_long.result c.elab_long.ensures.infers c.elab_long.ensures.has
    c.elab_long.ensures.ids c.requires.core)

pub exp::elab_field-returns-in_err-check_label : goal.exp::elab_field-returns-in_err-check_label
exp::elab_field-returns-in_err-check_label t c =
    passed c.from_residual.result c.in_err-check_label.field-0.0 c.from_residual.ensures.1
    (field_first {m0 = (moment c.args.g.now c.args.t.now c.args.scope.now)} c.args.field.now c.args.rows.now c.requires.scope.core
    (c.in_err-check_label.ensures.check c.args.t.now (scope_of c.args.g.now c.args.scope.now) refl))

pub exp::elab_field-returns-in_err-id : goal.exp::elab_field-returns-in_err-id
exp::elab_field-returns-in_err-id t c =
    passed c.from_residual-in_err-id.result c.in_err-id.field-0.0 c.from_residual-in_err-id.ensures.1
    (field_second c.args.field.now c.args.rows.now c.requires.scope.core
    (c.in_ok-check_label.ensures.check c.args.t.now (scope_of c.args.g.now c.args.scope.now) refl)
    c.in_err-id.ensures)

pub exp::elab_field-returns : goal.exp::elab_field-returns
exp::elab_field-returns t c =
    field_done c.args.field.now c.args.rows.now c.bind.new.self c.requires.scope.core
    (c.in_ok-check_label.ensures.check c.args.t.now (scope_of c.args.g.now c.args.scope.now) refl)
    c.in_ok-check_label.ensures.free c.requires.rows c.in_ok-id.ensures
    (c.in_ok-bind.ensures.ok ∙ ap (λ n. c.args.rows.now ++ (n, c.in_ok-id.id) ∷ []) c.in_ok-copy.ensures)

pub exp::elab_fields-loop-field-init : goal.exp::elab_fields-loop-field-init
exp::elab_fields-loop-field-init t c =
    fields_begin (moment c.args.g.now c.args.t.now c.args.scope.now) c.args.fields.now c.new-rows.result c.requires.core
    c.new-rows.ensures

pub exp::elab_fields-loop-field-preserved : goal.exp::elab_fields-loop-field-preserved
exp::elab_fields-loop-field-preserved t c =
    fields_next c.elab_field.new.rows c.loop-field.invariant c.loop-field-test.true c.field-item.is
    c.in_ok-elab_field.ensures

pub exp::elab_fields-returns-in_err-elab_field : goal.exp::elab_fields-returns-in_err-elab_field
exp::elab_fields-returns-in_err-elab_field t c =
    passed c.from_residual.result c.in_err-elab_field.field-0.0 c.from_residual.ensures.1
    (fields_fail c.elab_field.new.rows c.loop-field.invariant c.loop-field-test.true c.field-item.is
    c.in_err-elab_field.ensures)

pub exp::elab_fields-returns : goal.exp::elab_fields-returns
exp::elab_fields-returns t c =
    fields_end c.loop-field.invariant c.loop-field-test.false

pub exp::elab_match-loop-rule-init : goal.exp::elab_match-loop-rule-init
exp::elab_match-loop-rule-init t c =
    match_begin (moment c.args.g.now c.args.t.now c.args.scope.now) c.args.rules.now c.requires.core

pub exp::elab_match-loop-rule-preserved : goal.exp::elab_match-loop-rule-preserved
exp::elab_match-loop-rule-preserved t c =
    match_next c.loop-rule.invariant c.loop-rule-test.true c.rule-item.is c.in_ok-elab_rule.ensures

pub exp::elab_match-returns-in_err-elab_rule : goal.exp::elab_match-returns-in_err-elab_rule
exp::elab_match-returns-in_err-elab_rule t c =
    passed c.from_residual.result c.in_err-elab_rule.field-0.0 c.from_residual.ensures.1
    (match_fails c.loop-rule.invariant c.loop-rule-test.true c.rule-item.is c.in_err-elab_rule.ensures)

pub exp::elab_match-returns : goal.exp::elab_match-returns
exp::elab_match-returns t c =
    match_ends c.loop-rule.invariant c.loop-rule-test.false (c.match_type.ensures c.loop-rule.g)

pub exp::elab_in_scope-returns-in_err-function-in-App : goal.exp::elab_in_scope-returns-in_err-function-in-App
exp::elab_in_scope-returns-in_err-function-in-App t c =
    passed c.from_residual-in_err-function-in-App.result c.in_err-function-in-App.field-0.0 c.from_residual-in_err-function-in-App.ensures.1
    (as_phrase (ap exp_phrase c.in-App.is ∙ exp_phrase-App c.in-App.function c.in-App.argument c.in-App.at
    ∙ ap (λ p. ExpPhrase.App (exp_phrase p) (exp_phrase c.in-App.argument) c.in-App.at) (sym c.get.ensures))
    (app_first (exp_phrase c.get.result.now) (exp_phrase c.in-App.argument) c.in-App.at c.in_err-function-in-App.ensures))

pub exp::elab_in_scope-returns-in_err-argument-in-App : goal.exp::elab_in_scope-returns-in_err-argument-in-App
exp::elab_in_scope-returns-in_err-argument-in-App t c =
    passed c.from_residual-in_err-argument-in-App.result c.in_err-argument-in-App.field-0.0 c.from_residual-in_err-argument-in-App.ensures.1
    (as_phrase (ap exp_phrase c.in-App.is ∙ exp_phrase-App c.in-App.function c.in-App.argument c.in-App.at
    ∙ ap₂ (λ p q. ExpPhrase.App (exp_phrase p) (exp_phrase q) c.in-App.at) (sym c.get.ensures) (sym c.get-in-App.ensures))
    (app_second (exp_phrase c.get.result.now) (exp_phrase c.get-in-App.result.now) c.in-App.at c.requires.core
    c.in_ok-function-in-App.ensures c.in_err-argument-in-App.ensures))

pub exp::elab_in_scope-returns-in_ok-argument-in-App : goal.exp::elab_in_scope-returns-in_ok-argument-in-App
exp::elab_in_scope-returns-in_ok-argument-in-App t c =
    as_phrase (ap exp_phrase c.in-App.is ∙ exp_phrase-App c.in-App.function c.in-App.argument c.in-App.at
    ∙ ap₂ (λ p q. ExpPhrase.App (exp_phrase p) (exp_phrase q) c.in-App.at) (sym c.get.ensures) (sym c.get-in-App.ensures))
    (app_done (exp_phrase c.get.result.now) (exp_phrase c.get-in-App.result.now) c.in-App.at c.requires.core
    c.in_ok-function-in-App.ensures c.in_ok-argument-in-App.ensures c.apply.ensures)

pub exp::elab_in_scope-returns-in_err-rows-in-Record : goal.exp::elab_in_scope-returns-in_err-rows-in-Record
exp::elab_in_scope-returns-in_err-rows-in-Record t c =
    passed c.from_residual.result c.in_err-rows-in-Record.field-0.0 c.from_residual.ensures.1
    (as_phrase (ap exp_phrase c.in-Record.is ∙ exp_phrase-Record c.in-Record.fields c.in-Record.at
    ∙ ap (λ fields. ExpPhrase.Record (exp_fields (map exp_field_phrase fields)) c.in-Record.at) (sym c.as_slice.ensures))
    (record_first (exp_fields (map exp_field_phrase c.as_slice.result.now)) c.in-Record.at c.in_err-rows-in-Record.ensures))

pub exp::elab_in_scope-returns-in_ok-rows-in-Record : goal.exp::elab_in_scope-returns-in_ok-rows-in-Record
exp::elab_in_scope-returns-in_ok-rows-in-Record t c =
    as_phrase (ap exp_phrase c.in-Record.is ∙ exp_phrase-Record c.in-Record.fields c.in-Record.at
    ∙ ap (λ fields. ExpPhrase.Record (exp_fields (map exp_field_phrase fields)) c.in-Record.at) (sym c.as_slice.ensures))
    (record_done (exp_fields (map exp_field_phrase c.as_slice.result.now)) c.in-Record.at c.requires.core c.in_ok-rows-in-Record.ensures
    c.make_record.ensures)

pub exp::elab_in_scope-returns-in_err-id-in-Typed : goal.exp::elab_in_scope-returns-in_err-id-in-Typed
exp::elab_in_scope-returns-in_err-id-in-Typed t c =
    passed c.from_residual-in_err-id-in-Typed.result c.in_err-id-in-Typed.field-0.0 c.from_residual-in_err-id-in-Typed.ensures.1
    (as_phrase (ap exp_phrase c.in-Typed.is ∙ exp_phrase-Typed c.in-Typed.inner c.in-Typed.ty c.in-Typed.at
    ∙ ap (λ p. ExpPhrase.Typed (exp_phrase p) (ty_phrase c.in-Typed.ty) c.in-Typed.at) (sym c.get-in-Typed.ensures))
    (typed_first (exp_phrase c.get-in-Typed.result.now) (ty_phrase c.in-Typed.ty) c.in-Typed.at c.in_err-id-in-Typed.ensures))

pub exp::elab_in_scope-returns-in_ok-id-in-Typed : goal.exp::elab_in_scope-returns-in_ok-id-in-Typed
exp::elab_in_scope-returns-in_ok-id-in-Typed t c =
    as_phrase (ap exp_phrase c.in-Typed.is ∙ exp_phrase-Typed c.in-Typed.inner c.in-Typed.ty c.in-Typed.at
    ∙ ap (λ p. ExpPhrase.Typed (exp_phrase p) (ty_phrase c.in-Typed.ty) c.in-Typed.at) (sym c.get-in-Typed.ensures))
    (typed_done (exp_phrase c.get-in-Typed.result.now) (ty_phrase c.in-Typed.ty) c.in-Typed.at c.requires.core
    c.in_ok-id-in-Typed.ensures c.constrain.ensures)

pub exp::elab_in_scope-returns-in_err-id-in-Handle : goal.exp::elab_in_scope-returns-in_err-id-in-Handle
exp::elab_in_scope-returns-in_err-id-in-Handle t c =
    passed c.from_residual-in_err-id-in-Handle.result c.in_err-id-in-Handle.field-0.0 c.from_residual-in_err-id-in-Handle.ensures.1
    (as_phrase (ap exp_phrase c.in-Handle.is ∙ exp_phrase-Handle c.in-Handle.inner c.in-Handle.rules c.in-Handle.at
    ∙ ap (λ p. ExpPhrase.Handle (exp_phrase p) (rules_of (map rule_phrase c.in-Handle.rules)) c.in-Handle.at)
    (sym c.get-in-Handle.ensures))
    (handle_first (exp_phrase c.get-in-Handle.result.now) (rules_of (map rule_phrase c.in-Handle.rules)) c.in-Handle.at
    c.in_err-id-in-Handle.ensures))

pub exp::elab_in_scope-returns-in_err-handler-in-Handle : goal.exp::elab_in_scope-returns-in_err-handler-in-Handle
exp::elab_in_scope-returns-in_err-handler-in-Handle t c =
    passed c.from_residual-in_err-handler-in-Handle.result c.in_err-handler-in-Handle.field-0.0 c.from_residual-in_err-handler-in-Handle.ensures.1
    (as_phrase (ap exp_phrase c.in-Handle.is ∙ exp_phrase-Handle c.in-Handle.inner c.in-Handle.rules c.in-Handle.at
    ∙ ap₂ (λ p rules. ExpPhrase.Handle (exp_phrase p) (rules_of (map rule_phrase rules)) c.in-Handle.at)
    (sym c.get-in-Handle.ensures) (sym c.as_slice-in-Handle.ensures))
    (handle_second (exp_phrase c.get-in-Handle.result.now) (rules_of (map rule_phrase c.as_slice-in-Handle.result.now)) c.in-Handle.at
    c.requires.core c.in_ok-id-in-Handle.ensures c.in_err-handler-in-Handle.ensures))

pub exp::elab_in_scope-returns-in_ok-handler-in-Handle : goal.exp::elab_in_scope-returns-in_ok-handler-in-Handle
exp::elab_in_scope-returns-in_ok-handler-in-Handle t c =
    as_phrase (ap exp_phrase c.in-Handle.is ∙ exp_phrase-Handle c.in-Handle.inner c.in-Handle.rules c.in-Handle.at
    ∙ ap₂ (λ p rules. ExpPhrase.Handle (exp_phrase p) (rules_of (map rule_phrase rules)) c.in-Handle.at)
    (sym c.get-in-Handle.ensures) (sym c.as_slice-in-Handle.ensures))
    (handle_done (exp_phrase c.get-in-Handle.result.now) (rules_of (map rule_phrase c.as_slice-in-Handle.result.now)) c.in-Handle.at
    c.requires.core c.in_ok-id-in-Handle.ensures c.in_ok-handler-in-Handle.ensures c.handle.ensures)

pub exp::elab_in_scope-returns-in_err-id-in-Raise : goal.exp::elab_in_scope-returns-in_err-id-in-Raise
exp::elab_in_scope-returns-in_err-id-in-Raise t c =
    passed c.from_residual-in_err-id-in-Raise.result c.in_err-id-in-Raise.field-0.0 c.from_residual-in_err-id-in-Raise.ensures.1
    (as_phrase (ap exp_phrase c.in-Raise.is ∙ exp_phrase-Raise c.in-Raise.inner c.in-Raise.at
    ∙ ap (λ p. ExpPhrase.Raise (exp_phrase p) c.in-Raise.at) (sym c.get-in-Raise.ensures))
    (raise_first (exp_phrase c.get-in-Raise.result.now) c.in-Raise.at c.in_err-id-in-Raise.ensures))

pub exp::elab_in_scope-returns-in_ok-id-in-Raise : goal.exp::elab_in_scope-returns-in_ok-id-in-Raise
exp::elab_in_scope-returns-in_ok-id-in-Raise t c =
    as_phrase (ap exp_phrase c.in-Raise.is ∙ exp_phrase-Raise c.in-Raise.inner c.in-Raise.at
    ∙ ap (λ p. ExpPhrase.Raise (exp_phrase p) c.in-Raise.at) (sym c.get-in-Raise.ensures))
    (raise_done (exp_phrase c.get-in-Raise.result.now) c.in-Raise.at c.requires.core c.in_ok-id-in-Raise.ensures
    c.raise.ensures)

pub exp::elab_in_scope-returns-in_err-id-in-Fn : goal.exp::elab_in_scope-returns-in_err-id-in-Fn
exp::elab_in_scope-returns-in_err-id-in-Fn t c =
    passed c.from_residual-in_err-id-in-Fn.result c.in_err-id-in-Fn.field-0.0 c.from_residual-in_err-id-in-Fn.ensures.1
    (as_phrase (ap exp_phrase c.in-Fn.is ∙ exp_phrase-Fn c.in-Fn.rules c.in-Fn.at
    ∙ ap (λ rules. ExpPhrase.Fn (rules_of (map rule_phrase rules)) c.in-Fn.at) (sym c.as_slice-in-Fn.ensures))
    (fn_first (rules_of (map rule_phrase c.as_slice-in-Fn.result.now)) c.in-Fn.at c.in_err-id-in-Fn.ensures))

pub exp::elab_in_scope-returns-in_ok-id-in-Fn : goal.exp::elab_in_scope-returns-in_ok-id-in-Fn
exp::elab_in_scope-returns-in_ok-id-in-Fn t c =
    rw c.sized.ensures.table
    (as_phrase (ap exp_phrase c.in-Fn.is ∙ exp_phrase-Fn c.in-Fn.rules c.in-Fn.at
    ∙ ap (λ rules. ExpPhrase.Fn (rules_of (map rule_phrase rules)) c.in-Fn.at) (sym c.as_slice-in-Fn.ensures))
    (fn_done (rules_of (map rule_phrase c.as_slice-in-Fn.result.now)) c.in-Fn.at c.requires.core c.in_ok-id-in-Fn.ensures
    c.sized.ensures.answer c.sized.ensures.same))

pub exp::elab_rule-returns-in_err-from : goal.exp::elab_rule-returns-in_err-from
exp::elab_rule-returns-in_err-from t c =
    passed c.from_residual.result c.in_err-from.field-0.0 c.from_residual.ensures.1
    (rule_first c.args.first c.args.rule.now c.in_err-from.ensures.pattern)

pub exp::elab_rule-returns-in_err-exp : goal.exp::elab_rule-returns-in_err-exp
exp::elab_rule-returns-in_err-exp t c =
    passed c.from_residual-in_err-exp.result c.in_err-exp.field-0.0 c.from_residual-in_err-exp.ensures.1
    (rule_second c.args.first c.args.rule.now c.requires.scope.core c.in_ok-from.ensures.pattern c.in_err-exp.ensures)

pub exp::elab_rule-returns-in_err-to : goal.exp::elab_rule-returns-in_err-to
exp::elab_rule-returns-in_err-to t c =
    passed c.from_residual-in_err-to.result c.in_err-to.field-0.0 c.from_residual-in_err-to.ensures.1
    (rule_third c.args.first c.args.rule.now c.requires.scope.core c.in_ok-from.ensures.pattern c.in_ok-exp.ensures
    c.requires.first c.place_of_exp.ensures c.to_of.ensures c.in_err-to.ensures)

pub exp::elab_rule-returns : goal.exp::elab_rule-returns
exp::elab_rule-returns t c =
    rule_done c.args.first c.args.rule.now c.requires.scope.core c.in_ok-from.ensures.pattern c.in_ok-exp.ensures
    c.requires.first c.place_of_exp.ensures c.to_of.ensures c.in_ok-to.ensures

pub exp::elab_under-returns : goal.exp::elab_under-returns
exp::elab_under-returns t c =
    under_done c.args.bound.now (exp_phrase c.args.exp.now) c.requires.core
    (c.in_ok-enter_variables.ensures.ok c.args.g.now) c.elab_in_scope-result.ensures
    (c.leave.ensures c.args.scope.now c.mark-before.ensures.is
    (front_same c.args.scope.now c.enter_variables.new.scope c.elab_in_scope-result.new.scope
    (c.in_ok-enter_variables.ensures.ok c.args.g.now).front c.elab_in_scope-result.ensures.left))

pub binds::elab_bind-returns-in_err-pat : goal.binds::elab_bind-returns-in_err-pat
binds::elab_bind-returns-in_err-pat t c =
    passed_on (IsBind (moment c.args.g.now c.args.t.now c.args.scope.now) (rule_phrase c.args.rule.now)
    c.args.bound.now c.elab_pat.new.bound (groups_of c.args.groups.now) (groups_of c.args.groups.now)
    (moment c.args.g.now c.elab_pat.new.t c.args.scope.now)) c.from_residual.result c.in_err-pat.field-0.0
    c.from_residual.ensures.1
    (bind_of (rule_phrase-kept c.args.rule.now)
    (bind_first {m0 = moment c.args.g.now c.args.t.now c.args.scope.now}
    (pat_phrase (out-Rule c.args.rule.now).pat, exp_phrase (out-Rule c.args.rule.now).exp)
    (groups_of c.args.groups.now) c.requires.core c.in_err-pat.ensures))

pub binds::elab_bind-returns-in_err-exp : goal.binds::elab_bind-returns-in_err-exp
binds::elab_bind-returns-in_err-exp t c =
    passed_on (IsBind (moment c.args.g.now c.args.t.now c.args.scope.now) (rule_phrase c.args.rule.now)
    c.args.bound.now c.elab_pat.new.bound (groups_of c.args.groups.now) (groups_of c.args.groups.now)
    (moment c.elab_in_scope.new.g c.elab_in_scope.new.t c.elab_in_scope.new.scope)) c.from_residual-in_err-exp.result
    c.in_err-exp.field-0.0 c.from_residual-in_err-exp.ensures.1
    (bind_of (rule_phrase-kept c.args.rule.now)
    (bind_second {m0 = moment c.args.g.now c.args.t.now c.args.scope.now}
    (pat_phrase (out-Rule c.args.rule.now).pat, exp_phrase (out-Rule c.args.rule.now).exp)
    (groups_of c.args.groups.now) c.requires.core c.in_ok-pat.ensures c.in_err-exp.ensures))

pub binds::elab_bind-returns-in_err-joined : goal.binds::elab_bind-returns-in_err-joined
binds::elab_bind-returns-in_err-joined t c =
    passed_on (IsBind (moment c.args.g.now c.args.t.now c.args.scope.now) (rule_phrase c.args.rule.now)
    c.args.bound.now c.elab_pat.new.bound (groups_of c.args.groups.now) (groups_of c.args.groups.now)
    (moment c.elab_in_scope.new.g c.joined.new.t c.elab_in_scope.new.scope)) c.from_residual-in_err-joined.result
    c.in_err-joined.field-0.0 c.from_residual-in_err-joined.ensures.1
    (bind_of (rule_phrase-kept c.args.rule.now)
    (bind_third {m0 = moment c.args.g.now c.args.t.now c.args.scope.now}
    (pat_phrase (out-Rule c.args.rule.now).pat, exp_phrase (out-Rule c.args.rule.now).exp)
    (groups_of c.args.groups.now) c.requires.core c.in_ok-pat.ensures c.in_ok-exp.ensures c.place_of_pat.ensures
    c.in_err-joined.ensures))

pub binds::elab_bind-returns-in_err-add_binding : goal.binds::elab_bind-returns-in_err-add_binding
binds::elab_bind-returns-in_err-add_binding t c =
    passed_on (IsBind (moment c.args.g.now c.args.t.now c.args.scope.now) (rule_phrase c.args.rule.now)
    c.args.bound.now c.elab_pat.new.bound (groups_of c.args.groups.now) (groups_of c.add_binding.new.groups)
    (moment c.elab_in_scope.new.g c.joined.new.t c.elab_in_scope.new.scope))
    c.from_residual-in_err-add_binding.result fault.NoMemory c.from_residual-in_err-add_binding.ensures.1
    (bind_of (rule_phrase-kept c.args.rule.now)
    (bind_memory {m0 = moment c.args.g.now c.args.t.now c.args.scope.now}
    (pat_phrase (out-Rule c.args.rule.now).pat, exp_phrase (out-Rule c.args.rule.now).exp)
    (groups_of c.args.groups.now) c.requires.core c.in_ok-pat.ensures c.in_ok-exp.ensures c.place_of_pat.ensures
    c.in_ok-joined.ensures))

pub binds::elab_bind-returns : goal.binds::elab_bind-returns
binds::elab_bind-returns t c =
    bind_of (rule_phrase-kept c.args.rule.now)
    (bind_done {m0 = moment c.args.g.now c.args.t.now c.args.scope.now}
    (pat_phrase (out-Rule c.args.rule.now).pat, exp_phrase (out-Rule c.args.rule.now).exp)
    (groups_of c.args.groups.now) c.len-start.result c.requires.core c.in_ok-pat.ensures c.in_ok-exp.ensures
    c.place_of_pat.ensures c.in_ok-joined.ensures c.len-start.ensures c.in_ok-add_binding.ensures.ok)

pub binds::elab_binds-loop-rule-preserved : goal.binds::elab_binds-loop-rule-preserved
binds::elab_binds-loop-rule-preserved t c =
    binds_next c.loop-rule.invariant
    (ap (λ (rules : List Rule). map rule_phrase rules)
    (drop_item c.args.rules.now c.loop-rule.rule-index c.rule-item.result c.loop-rule-test.true c.rule-item.is))
    c.in_ok-elab_bind.ensures

pub binds::elab_binds-returns-in_err-elab_bind : goal.binds::elab_binds-returns-in_err-elab_bind
binds::elab_binds-returns-in_err-elab_bind t c =
    passed_on (AreBinds (moment c.args.g.now c.args.t.now c.args.scope.now) (map rule_phrase c.args.rules.now)
    c.args.bound.now c.elab_bind.new.bound (groups_of c.args.groups.now) (groups_of c.elab_bind.new.groups)
    (moment c.elab_bind.new.g c.elab_bind.new.t c.elab_bind.new.scope)) c.from_residual.result
    c.in_err-elab_bind.field-0.0 c.from_residual.ensures.1
    (binds_fail c.loop-rule.invariant
    (ap (λ (rules : List Rule). map rule_phrase rules)
    (drop_item c.args.rules.now c.loop-rule.rule-index c.rule-item.result c.loop-rule-test.true c.rule-item.is))
    c.in_err-elab_bind.ensures)

pub rec_exps::elab_rec_exp-returns-in_err-exp : goal.rec_exps::elab_rec_exp-returns-in_err-exp
rec_exps::elab_rec_exp-returns-in_err-exp t c =
    passed c.from_residual.result c.in_err-exp.field-0.0 c.from_residual.ensures.1
    (rec_of c.args.ty (rule_phrase-kept c.args.rule.now)
    (rec_first (pat_phrase (out-Rule c.args.rule.now).pat, exp_phrase (out-Rule c.args.rule.now).exp) c.args.ty
    c.in_err-exp.ensures))

pub rec_exps::elab_rec_exp-returns-in_err-joined : goal.rec_exps::elab_rec_exp-returns-in_err-joined
rec_exps::elab_rec_exp-returns-in_err-joined t c =
    passed c.from_residual-in_err-joined.result c.in_err-joined.field-0.0 c.from_residual-in_err-joined.ensures.1
    (rec_of c.args.ty (rule_phrase-kept c.args.rule.now)
    (rec_second (pat_phrase (out-Rule c.args.rule.now).pat, exp_phrase (out-Rule c.args.rule.now).exp) c.args.ty
    c.in_ok-exp.exp c.place_of_pat.result c.requires.scope.core c.requires.ty c.in_ok-exp.ensures c.place_of_pat.ensures
    c.in_err-joined.ensures))

pub rec_exps::elab_rec_exp-returns : goal.rec_exps::elab_rec_exp-returns
rec_exps::elab_rec_exp-returns t c =
    rec_of c.args.ty (rule_phrase-kept c.args.rule.now)
    (rec_done (pat_phrase (out-Rule c.args.rule.now).pat, exp_phrase (out-Rule c.args.rule.now).exp) c.args.ty
    c.in_ok-exp.exp c.place_of_pat.result c.requires.scope.core c.requires.ty c.in_ok-exp.ensures c.place_of_pat.ensures
    c.in_ok-joined.ensures)

pub rec_exps::elab_rec_exps-loop-rule-preserved : goal.rec_exps::elab_rec_exps-loop-rule-preserved
rec_exps::elab_rec_exps-loop-rule-preserved t c =
    recs_next c.loop-rule.invariant
    (ap (λ (rules : List Rule). map rule_phrase rules)
    (drop_item c.args.recs.now c.loop-rule.rule-index c.rule-item.result c.loop-rule-test.true c.rule-item.is))
    c.in-Some.ensures.cases.0 c.in_ok-elab_rec_exp-in-Some.ensures

pub rec_exps::elab_rec_exps-returns-in_err-elab_rec_exp-in-Some : goal.rec_exps::elab_rec_exps-returns-in_err-elab_rec_exp-in-Some
rec_exps::elab_rec_exps-returns-in_err-elab_rec_exp-in-Some t c =
    passed c.from_residual.result c.in_err-elab_rec_exp-in-Some.field-0.0 c.from_residual.ensures.1
    (recs_fail c.loop-rule.invariant
    (ap (λ (rules : List Rule). map rule_phrase rules)
    (drop_item c.args.recs.now c.loop-rule.rule-index c.rule-item.result c.loop-rule-test.true c.rule-item.is))
    c.in-Some.ensures.cases.0 c.in_err-elab_rec_exp-in-Some.ensures)

pub val::elab_recs_under-returns : goal.val::elab_recs_under-returns
val::elab_recs_under-returns t c =
    recs_under c.args.bound.now (map rule_phrase c.args.recs.now) c.args.types.now c.requires.scope.core
    (c.in_ok-enter_variables.ensures.ok c.args.g.now) c.elab_rec_exps-result.ensures
    (c.leave.ensures c.args.scope.now c.mark-before.ensures.is
    (front_same c.args.scope.now c.enter_variables.new.scope c.elab_rec_exps-result.new.scope
    (c.in_ok-enter_variables.ensures.ok c.args.g.now).front c.elab_rec_exps-result.ensures.left))

pub val::elab_behind_binds-rec_patterns-requires : goal.val::elab_behind_binds-rec_patterns-requires
val::elab_behind_binds-rec_patterns-requires t c = c.requires.binds.elabs.core

pub val::elab_behind_binds-is_ready_under-requires : goal.val::elab_behind_binds-is_ready_under-requires
val::elab_behind_binds-is_ready_under-requires t c =
    λ k. recs_ready c.requires.rows (map rule_phrase c.as_slice-recursive.result.now) c.in_ok-pats-in-Val.pats.bound
    (length c.args.bound) c.requires.ready c.requires.binds c.is_kept.ensures c.in_ok-pats-in-Val.ensures.pats k
    refl c.in_ok-pats-in-Val.ensures.since

pub val::elab_behind_binds-are_there-requires : goal.val::elab_behind_binds-are_there-requires
val::elab_behind_binds-are_there-requires t c =
    c.in_ok-pats-in-Val.ensures.pats.answers.have

pub val::elab_behind_binds-returns-in_err-pats-in-Val : goal.val::elab_behind_binds-returns-in_err-pats-in-Val
val::elab_behind_binds-returns-in_err-pats-in-Val t c = λ h.
    passed c.from_residual.result c.in_err-pats-in-Val.field-0.0 c.from_residual.ensures.1
    (of_rows (state c.args.since.now).next c.args.own.now c.in-Val.field-0 h.rows (map rule_phrase c.as_slice-recursive.result.now) c.in-Val.at
    (behind_phrase c.in-Val.field-0 (rules_of (map rule_phrase c.in-Val.field-1)) h.rows c.in-Val.recs
    c.as_slice-recursive.result.now c.in-Val.at
    (ap dec_phrase c.in-Val.is ∙ dec_phrase-Val c.in-Val.field-0 c.in-Val.field-1 c.in-Val.recs c.in-Val.at) h.are
    c.as_slice-recursive.ensures)
    (val_second (state c.args.since.now).next c.in-Val.at c.args.own.now h.rows (map rule_phrase c.as_slice-recursive.result.now)
    c.in_err-pats-in-Val.field-0.0 h.ready.core h.binds c.in_err-pats-in-Val.ensures.pats))

pub val::elab_behind_binds-close_val-requires-clause-front : goal.val::elab_behind_binds-close_val-requires-clause-front
val::elab_behind_binds-close_val-requires-clause-front t c =
    let h = c.requires in
    val_front (state c.args.since.now).next c.in-Val.at c.args.own.now h.rows (map rule_phrase c.as_slice-recursive.result.now) h.ready.core h.binds
    c.in_ok-pats-in-Val.ensures.pats c.args.since.now c.in_ok-pats-in-Val.pats.bound h.front (as_recs_under c.in_ok-pats-in-Val.pats.bound c.in_ok-pats-in-Val.pats.types c.in-Val.field-0 c.in-Val.field-1
    c.as_slice-recursive.result.now c.in-Val.at (val_phrase c.in-Val.field-0 c.in-Val.field-1 c.in-Val.recs
    c.in-Val.field-1 c.as_slice-recursive.result.now c.in-Val.at
    (ap dec_phrase c.in-Val.is ∙ dec_phrase-Val c.in-Val.field-0 c.in-Val.field-1 c.in-Val.recs c.in-Val.at) refl
    c.as_slice-recursive.ensures) c.in_ok-elab_recs_of-in-Val.ensures)

pub val::elab_behind_binds-close_val-requires-clause-distinct : goal.val::elab_behind_binds-close_val-requires-clause-distinct
val::elab_behind_binds-close_val-requires-clause-distinct t c =
    let h = c.requires in
    val_distinct (state c.args.since.now).next c.in-Val.at c.args.own.now h.rows (map rule_phrase c.as_slice-recursive.result.now) h.ready.core h.binds
    c.in_ok-pats-in-Val.ensures.pats

pub val::elab_behind_binds-returns-in_ok-elab_recs_of-in-Val : goal.val::elab_behind_binds-returns-in_ok-elab_recs_of-in-Val
val::elab_behind_binds-returns-in_ok-elab_recs_of-in-Val t c = λ h.
    of_rows (state c.args.since.now).next c.args.own.now c.in-Val.field-0 h.rows (map rule_phrase c.as_slice-recursive.result.now) c.in-Val.at
    (behind_phrase c.in-Val.field-0 (rules_of (map rule_phrase c.in-Val.field-1)) h.rows c.in-Val.recs
    c.as_slice-recursive.result.now c.in-Val.at
    (ap dec_phrase c.in-Val.is ∙ dec_phrase-Val c.in-Val.field-0 c.in-Val.field-1 c.in-Val.recs c.in-Val.at) h.are
    c.as_slice-recursive.ensures)
    (val_done (state c.args.since.now).next c.in-Val.at c.args.own.now h.rows (map rule_phrase c.as_slice-recursive.result.now)
    h.ready.core h.binds c.in_ok-pats-in-Val.ensures.pats c.in_ok-pats-in-Val.pats.bound
    (length c.args.bound) refl c.in_ok-pats-in-Val.ensures.since (as_recs_under c.in_ok-pats-in-Val.pats.bound c.in_ok-pats-in-Val.pats.types c.in-Val.field-0 c.in-Val.field-1
    c.as_slice-recursive.result.now c.in-Val.at (val_phrase c.in-Val.field-0 c.in-Val.field-1 c.in-Val.recs
    c.in-Val.field-1 c.as_slice-recursive.result.now c.in-Val.at
    (ap dec_phrase c.in-Val.is ∙ dec_phrase-Val c.in-Val.field-0 c.in-Val.field-1 c.in-Val.recs c.in-Val.at) refl
    c.as_slice-recursive.ensures) c.in_ok-elab_recs_of-in-Val.ensures)
    c.close_val.ensures.same
    (c.close_val.ensures.answer (scope_at (moment c.elab_recs_of.new.g c.elab_recs_of.new.t
    c.elab_recs_of.new.scope)) refl) c.close_val.ensures.structures)

pub val::elab_behind_binds-returns-in_err-elab_recs_of-in-Val : goal.val::elab_behind_binds-returns-in_err-elab_recs_of-in-Val
val::elab_behind_binds-returns-in_err-elab_recs_of-in-Val t c = λ h.
    of_rows (state c.args.since.now).next c.args.own.now c.in-Val.field-0 h.rows (map rule_phrase c.as_slice-recursive.result.now) c.in-Val.at
    (behind_phrase c.in-Val.field-0 (rules_of (map rule_phrase c.in-Val.field-1)) h.rows c.in-Val.recs
    c.as_slice-recursive.result.now c.in-Val.at
    (ap dec_phrase c.in-Val.is ∙ dec_phrase-Val c.in-Val.field-0 c.in-Val.field-1 c.in-Val.recs c.in-Val.at) h.are
    c.as_slice-recursive.ensures)
    (passed c.from_residual-in_err-elab_recs_of-in-Val.result c.in_err-elab_recs_of-in-Val.field-0.0
    c.from_residual-in_err-elab_recs_of-in-Val.ensures.1
    (val_third (state c.args.since.now).next c.in-Val.at c.args.own.now h.rows (map rule_phrase c.as_slice-recursive.result.now)
    h.ready.core h.binds c.in_ok-pats-in-Val.ensures.pats c.in_ok-pats-in-Val.pats.bound
    (length c.args.bound) refl c.in_ok-pats-in-Val.ensures.since (as_recs_under c.in_ok-pats-in-Val.pats.bound c.in_ok-pats-in-Val.pats.types c.in-Val.field-0 c.in-Val.field-1
    c.as_slice-recursive.result.now c.in-Val.at (val_phrase c.in-Val.field-0 c.in-Val.field-1 c.in-Val.recs
    c.in-Val.field-1 c.as_slice-recursive.result.now c.in-Val.at
    (ap dec_phrase c.in-Val.is ∙ dec_phrase-Val c.in-Val.field-0 c.in-Val.field-1 c.in-Val.recs c.in-Val.at) refl
    c.as_slice-recursive.ensures) c.in_err-elab_recs_of-in-Val.ensures)))

pub val::elab_behind_binds-returns-in_default : goal.val::elab_behind_binds-returns-in_default
val::elab_behind_binds-returns-in_default t c = λ h. memory h.binds.elabs.goes h.binds.elabs.left h.binds.elabs.core

pub val::elab_val_under-returns-in_err-elab_binds-in-Val : goal.val::elab_val_under-returns-in_err-elab_binds-in-Val
val::elab_val_under-returns-in_err-elab_binds-in-Val t c =
    passed c.from_residual.result c.in_err-elab_binds-in-Val.field-0.0 c.from_residual.ensures.1
    (of_val (state c.args.since.now).next c.args.own.now c.in-Val.field-0 c.as_slice-plain.result.now c.in-Val.field-2
    c.in-Val.field-3 (val_phrase c.in-Val.field-0 c.in-Val.binds c.in-Val.field-2
    c.as_slice-plain.result.now c.in-Val.field-2 c.in-Val.field-3
    (ap dec_phrase c.in-Val.is ∙ dec_phrase-Val c.in-Val.field-0 c.in-Val.binds c.in-Val.field-2 c.in-Val.field-3)
    c.as_slice-plain.ensures refl)
    (val_first (state c.args.since.now).next c.in-Val.field-3 c.args.own.now (map rule_phrase c.as_slice-plain.result.now)
    (map rule_phrase c.in-Val.field-2)
    (binds_alone (map rule_phrase c.as_slice-plain.result.now) c.new-bound.result c.elab_binds.new.bound
    (groups_of c.new-groups.result) (groups_of c.elab_binds.new.groups) c.new-bound.ensures
    (ap groups_of c.new-groups.ensures) c.in_err-elab_binds-in-Val.ensures)))

pub val::elab_val_under-is_behind_binds-requires : goal.val::elab_val_under-is_behind_binds-requires
val::elab_val_under-is_behind_binds-requires t c =
    record {
      from = moment c.args.g.now c.args.t.now c.args.scope.now;
      ready = c.requires.scope;
      front = c.requires.front;
      rows = map rule_phrase c.as_slice-plain.result.now;
      are = ap binds_of (val_phrase c.in-Val.field-0 c.in-Val.binds c.in-Val.field-2
          c.as_slice-plain.result.now c.in-Val.field-2 c.in-Val.field-3
          (ap dec_phrase c.in-Val.is ∙ dec_phrase-Val c.in-Val.field-0 c.in-Val.binds c.in-Val.field-2 c.in-Val.field-3)
          c.as_slice-plain.ensures refl);
      binds = (binds_alone (map rule_phrase c.as_slice-plain.result.now) c.new-bound.result c.elab_binds.new.bound
          (groups_of c.new-groups.result) (groups_of c.elab_binds.new.groups) c.new-bound.ensures
          (ap groups_of c.new-groups.ensures) c.in_ok-elab_binds-in-Val.ensures);
    }

pub val::elab_val_under-returns-in_ok-elab_binds-in-Val : goal.val::elab_val_under-returns-in_ok-elab_binds-in-Val
val::elab_val_under-returns-in_ok-elab_binds-in-Val t c =
    c.elab_behind_binds.ensures (record {
      from = moment c.args.g.now c.args.t.now c.args.scope.now;
      ready = c.requires.scope;
      front = c.requires.front;
      rows = map rule_phrase c.as_slice-plain.result.now;
      are = ap binds_of (val_phrase c.in-Val.field-0 c.in-Val.binds c.in-Val.field-2
          c.as_slice-plain.result.now c.in-Val.field-2 c.in-Val.field-3
          (ap dec_phrase c.in-Val.is ∙ dec_phrase-Val c.in-Val.field-0 c.in-Val.binds c.in-Val.field-2 c.in-Val.field-3)
          c.as_slice-plain.ensures refl);
      binds = (binds_alone (map rule_phrase c.as_slice-plain.result.now) c.new-bound.result c.elab_binds.new.bound
          (groups_of c.new-groups.result) (groups_of c.elab_binds.new.groups) c.new-bound.ensures
          (ap groups_of c.new-groups.ensures) c.in_ok-elab_binds-in-Val.ensures);
    })

pub val::elab_val-returns-in_err-own-in-Val : goal.val::elab_val-returns-in_err-own-in-Val
val::elab_val-returns-in_err-own-in-Val t c =
    passed c.from_residual.result c.in_err-own-in-Val.field-0.0 c.from_residual.ensures.1
    (of_values c.as_slice-names.result.now c.in-Val.binds c.in-Val.recs c.in-Val.field-3 (ap dec_phrase c.in-Val.is ∙ dec_phrase-Val c.in-Val.tyvars c.in-Val.binds c.in-Val.recs c.in-Val.field-3
    ∙ ap (λ names. DecPhrase.Val names (rules_of (map rule_phrase c.in-Val.binds)) (rules_of (map rule_phrase c.in-Val.recs)) c.in-Val.field-3) (sym c.as_slice-names.ensures))
    (val_stops c.as_slice-names.result.now (map rule_phrase c.in-Val.binds) (map rule_phrase c.in-Val.recs) c.in-Val.field-3
    c.requires.core c.requires.state c.in_err-own-in-Val.ensures.ids c.in_err-own-in-Val.field-0.0 c.in_err-own-in-Val.ensures.infers
    c.in_err-own-in-Val.ensures.err))

pub val::elab_val-returns-in_ok-own-in-Val : goal.val::elab_val-returns-in_ok-own-in-Val
val::elab_val-returns-in_ok-own-in-Val t c =
    of_values c.as_slice-names.result.now c.in-Val.binds c.in-Val.recs c.in-Val.field-3 (ap dec_phrase c.in-Val.is ∙ dec_phrase-Val c.in-Val.tyvars c.in-Val.binds c.in-Val.recs c.in-Val.field-3
    ∙ ap (λ names. DecPhrase.Val names (rules_of (map rule_phrase c.in-Val.binds)) (rules_of (map rule_phrase c.in-Val.recs)) c.in-Val.field-3) (sym c.as_slice-names.ensures))
    (val_whole c.as_slice-names.result.now (map rule_phrase c.in-Val.binds) (map rule_phrase c.in-Val.recs) c.in-Val.field-3
    c.requires.core c.requires.state c.in_ok-own-in-Val.ensures.ids c.in_ok-own-in-Val.own c.in_ok-own-in-Val.ensures.infers
    c.in_ok-own-in-Val.ensures.ok
    (under_as c.mark-since.result c.args.t.now c.in-Val.field-3 c.in_ok-own-in-Val.own
    (map rule_phrase c.in-Val.binds) (map rule_phrase c.in-Val.binds)
    (map rule_phrase c.in-Val.recs) (map rule_phrase c.in-Val.recs)
    c.mark-since.ensures refl refl
    (as_under (state c.mark-since.result).next c.in_ok-own-in-Val.own c.as_slice-names.result.now c.in-Val.binds c.in-Val.recs c.in-Val.field-3 (ap dec_phrase c.in-Val.is ∙ dec_phrase-Val c.in-Val.tyvars c.in-Val.binds c.in-Val.recs c.in-Val.field-3
    ∙ ap (λ names. DecPhrase.Val names (rules_of (map rule_phrase c.in-Val.binds)) (rules_of (map rule_phrase c.in-Val.recs)) c.in-Val.field-3) (sym c.as_slice-names.ensures))
    c.elab_val_under-result.ensures))
    (c.leave.ensures c.args.scope.now c.mark-before.ensures.is
    (front_same c.args.scope.now c.own_variables.new.scope c.elab_val_under-result.new.scope
    c.in_ok-own-in-Val.ensures.ok.front c.elab_val_under-result.ensures.left)))

pub exp::elab_let-returns-in_default : goal.exp::elab_let-returns-in_default
exp::elab_let-returns-in_default t c = at_once c.requires.core

pub declared::elab_declared-returns-in-Types : goal.declared::elab_declared-returns-in-Types
declared::elab_declared-returns-in-Types t c =
    as_dec (ap dec_phrase c.in-Types.is ∙ dec_phrase-Types c.in-Types.binds c.in-Types.at
    ∙ ap (λ binds. DecPhrase.Types (map typ_phrase binds) c.in-Types.at) (sym c.as_slice.ensures))
    c.declare_types.ensures

pub declared::elab_declared-returns-in-Datatypes : goal.declared::elab_declared-returns-in-Datatypes
declared::elab_declared-returns-in-Datatypes t c =
    as_dec (ap dec_phrase c.in-Datatypes.is ∙ dec_phrase-Datatypes c.in-Datatypes.binds c.in-Datatypes.at
    ∙ ap (λ binds. DecPhrase.Datatypes (map dat_phrase binds) c.in-Datatypes.at) (sym c.as_slice-in-Datatypes.ensures))
    c.declare_datatypes.ensures

pub declared::elab_declared-returns-in-Replication : goal.declared::elab_declared-returns-in-Replication
declared::elab_declared-returns-in-Replication t c =
    as_dec (ap dec_phrase c.in-Replication.is
    ∙ dec_phrase-Replication c.in-Replication.name c.in-Replication.long c.in-Replication.at) c.declare_replica.ensures

pub declared::elab_declared-returns-in-Open : goal.declared::elab_declared-returns-in-Open
declared::elab_declared-returns-in-Open t c =
    as_dec (ap dec_phrase c.in-Open.is ∙ dec_phrase-Open c.in-Open.longs c.in-Open.at
    ∙ ap (λ longs. DecPhrase.Open longs c.in-Open.at) (sym c.as_slice-in-Open.ensures)) c.declare_open.ensures

pub declared::elab_declared-returns-in-Sequence : goal.declared::elab_declared-returns-in-Sequence
declared::elab_declared-returns-in-Sequence t c =
    as_dec (ap dec_phrase c.in-Sequence.is ∙ dec_phrase-Sequence c.in-Sequence.decs c.in-Sequence.field-1
    ∙ ap (λ decs. DecPhrase.Sequence (dec_phrases (map dec_phrase decs)) c.in-Sequence.field-1)
    (sym c.as_slice-in-Sequence.ensures)) c.elab_sequence.ensures

pub declared::elab_sequence-returns : goal.declared::elab_sequence-returns
declared::elab_sequence-returns t c =
    decs_all c.elab_each-outcome.result c.made_where.result c.requires.core c.elab_each-outcome.ensures
    (c.leave.ensures c.args.scope.now c.mark-before.ensures.is c.elab_each-outcome.ensures.front) c.made_where.ensures

pub declared::elab_each-loop-dec-init : goal.declared::elab_each-loop-dec-init
declared::elab_each-loop-dec-init t c =
    decs_begin (moment c.args.g.now c.args.t.now c.args.scope.now) (dec_phrases (map dec_phrase c.args.decs.now))
    c.args.all.now c.requires.scope c.requires.front c.requires.all

pub declared::elab_each-loop-dec-preserved : goal.declared::elab_each-loop-dec-preserved
declared::elab_each-loop-dec-preserved t c =
    decs_next c.loop-dec.invariant
    (ap (λ (decs : List Dec). dec_phrases (map dec_phrase decs))
    (drop_item c.args.decs.now c.loop-dec.dec-index c.dec-item.result c.loop-dec-test.true c.dec-item.is))
    c.is_ready.ensures.kept c.is_kept.ensures
    (made_after c.in_ok-made.made (dec_phrase c.dec-item.result) c.enter_declared.ensures.kept
    c.in_ok-enter_declared.ensures.state c.in_ok-made.ensures)
    (c.in_ok-enter_declared.ensures.scope c.elab_declared.new.g c.in_ok-made.ensures.envs) c.in_ok-enter_declared.ensures.all

pub declared::elab_each-returns-in_err-made : goal.declared::elab_each-returns-in_err-made
declared::elab_each-returns-in_err-made t c =
    passed_on (AreEntered (moment c.args.g.now c.args.t.now c.args.scope.now)
    (dec_phrases (map dec_phrase c.args.decs.now)) c.loop-dec.all
    (moment c.elab_declared.new.g c.elab_declared.new.t c.elab_declared.new.scope)) c.from_residual.result
    c.in_err-made.field-0.0 c.from_residual.ensures.1
    (decs_fail c.loop-dec.invariant
    (ap (λ (decs : List Dec). dec_phrases (map dec_phrase decs))
    (drop_item c.args.decs.now c.loop-dec.dec-index c.dec-item.result c.loop-dec-test.true c.dec-item.is))
    c.in_err-made.ensures)

pub declared::elab_each-returns-in_err-enter_declared : goal.declared::elab_each-returns-in_err-enter_declared
declared::elab_each-returns-in_err-enter_declared t c =
    passed_on (AreEntered (moment c.args.g.now c.args.t.now c.args.scope.now)
    (dec_phrases (map dec_phrase c.args.decs.now)) c.enter_declared.new.all
    (moment c.elab_declared.new.g c.enter_declared.new.t c.enter_declared.new.scope))
    c.from_residual-in_err-enter_declared.result fault.NoMemory c.from_residual-in_err-enter_declared.ensures.1
    (decs_memory c.loop-dec.invariant (ap (λ (decs : List Dec). dec_phrases (map dec_phrase decs))
    (drop_item c.args.decs.now c.loop-dec.dec-index c.dec-item.result c.loop-dec-test.true c.dec-item.is))
    c.enter_declared.ensures.kept c.in_ok-made.ensures c.in_err-enter_declared.ensures.err)

pub declared::elab_each-returns : goal.declared::elab_each-returns
declared::elab_each-returns t c =
    decs_end c.loop-dec.invariant (ap (λ (decs : List Dec). dec_phrases (map dec_phrase decs))
    (drop_past c.args.decs.now c.loop-dec.dec-index c.loop-dec-test.false))

pub declared::elab_declared-returns-in-Structures : goal.declared::elab_declared-returns-in-Structures
declared::elab_declared-returns-in-Structures t c = dec_memory {m = moment c.args.g.now c.args.t.now c.args.scope.now} c.requires.core

pub declared::elab_declared-returns-in-Val : goal.declared::elab_declared-returns-in-Val
declared::elab_declared-returns-in-Val t c =
    val_declared (dec_phrase c.args.dec.now) c.elab_val.ensures

pub declared::elab_declared-returns-in-Exceptions : goal.declared::elab_declared-returns-in-Exceptions
declared::elab_declared-returns-in-Exceptions t c =
    as_dec (ap dec_phrase c.in-Exceptions.is ∙ dec_phrase-Exceptions c.in-Exceptions.binds c.in-Exceptions.at
    ∙ ap (λ binds. DecPhrase.Exceptions (map ex_phrase binds) c.in-Exceptions.at) (sym c.as_slice-in-Exceptions.ensures))
    c.declare_exceptions.ensures

pub binds::elab_binds-loop-rule-init : goal.binds::elab_binds-loop-rule-init
binds::elab_binds-loop-rule-init t c =
    binds_begin (moment c.args.g.now c.args.t.now c.args.scope.now) (map rule_phrase c.args.rules.now) c.args.bound.now
    (groups_of c.args.groups.now) c.requires.core

pub binds::elab_binds-returns : goal.binds::elab_binds-returns
binds::elab_binds-returns t c =
    binds_end c.loop-rule.invariant (ap (λ (rules : List Rule). map rule_phrase rules)
    (drop_past c.args.rules.now c.loop-rule.rule-index c.loop-rule-test.false))

pub rec_exps::elab_rec_exps-loop-rule-init : goal.rec_exps::elab_rec_exps-loop-rule-init
rec_exps::elab_rec_exps-loop-rule-init t c =
    recs_begin (moment c.args.g.now c.args.t.now c.args.scope.now) (map rule_phrase c.args.recs.now) c.args.types.now
    c.as_slice-left.result.now c.requires.scope.core c.requires.types c.as_slice-left.ensures

pub rec_exps::elab_rec_exps-returns-in-None : goal.rec_exps::elab_rec_exps-returns-in-None
rec_exps::elab_rec_exps-returns-in-None t c =
    recs_stop c.loop-rule.invariant

pub rec_exps::elab_rec_exps-returns : goal.rec_exps::elab_rec_exps-returns
rec_exps::elab_rec_exps-returns t c =
    recs_end c.loop-rule.invariant (ap (λ (rules : List Rule). map rule_phrase rules)
    (drop_past c.args.recs.now c.loop-rule.rule-index c.loop-rule-test.false))

pub binds::elab_bind-is_ready-requires : goal.binds::elab_bind-is_ready-requires
binds::elab_bind-is_ready-requires t c =
    λ k. table_later c.args.g.now c.args.t.now c.elab_pat.new.t c.args.scope.now c.requires k c.in_ok-pat.ensures.goes.ids

pub binds::elab_binds-is_ready-requires : goal.binds::elab_binds-is_ready-requires
binds::elab_binds-is_ready-requires t c =
    λ k. later {old = moment c.args.g.now c.args.t.now c.args.scope.now} c.requires k
    c.loop-rule.invariant.goes c.loop-rule.invariant.same

pub exp::elab_in_scope-is_ready-requires : goal.exp::elab_in_scope-is_ready-requires
exp::elab_in_scope-is_ready-requires t c =
    λ k. later c.requires k c.in_ok-function-in-App.ensures.goes c.in_ok-function-in-App.ensures.left

pub exp::elab_in_scope-is_ready-requires-in-Handle : goal.exp::elab_in_scope-is_ready-requires-in-Handle
exp::elab_in_scope-is_ready-requires-in-Handle t c =
    λ k. later c.requires k c.in_ok-id-in-Handle.ensures.goes c.in_ok-id-in-Handle.ensures.left

pub exp::elab_fields-is_ready-requires : goal.exp::elab_fields-is_ready-requires
exp::elab_fields-is_ready-requires t c =
    λ k. later {old = moment c.args.g.now c.args.t.now c.args.scope.now} c.requires k
    c.loop-field.invariant.goes c.loop-field.invariant.same

pub exp::elab_match-is_ready-requires : goal.exp::elab_match-is_ready-requires
exp::elab_match-is_ready-requires t c =
    λ k. later {old = moment c.args.g.now c.args.t.now c.args.scope.now} c.requires k
    c.loop-rule.invariant.goes c.loop-rule.invariant.same

pub exp::elab_under-is_ready-requires : goal.exp::elab_under-is_ready-requires
exp::elab_under-is_ready-requires t c =
    λ k. entered (moment c.args.g.now c.args.t.now c.args.scope.now)
    (moment c.args.g.now c.args.t.now c.enter_variables.new.scope)
    (under_bound (bound_of c.args.bound.now) (scope_at (moment c.args.g.now c.args.t.now c.args.scope.now)))
    (c.in_ok-enter_variables.ensures.ok c.args.g.now).seen
    ((c.in_ok-enter_variables.ensures.ok c.args.g.now).there c.args.t.now c.requires.core) k c.requires.state

pub val::elab_recs_under-is_ready-requires : goal.val::elab_recs_under-is_ready-requires
val::elab_recs_under-is_ready-requires t c =
    λ k. entered (moment c.args.g.now c.args.t.now c.args.scope.now)
    (moment c.args.g.now c.args.t.now c.enter_variables.new.scope)
    (under_bound (bound_of c.args.bound.now) (scope_at (moment c.args.g.now c.args.t.now c.args.scope.now)))
    (c.in_ok-enter_variables.ensures.ok c.args.g.now).seen
    ((c.in_ok-enter_variables.ensures.ok c.args.g.now).there c.args.t.now c.requires.scope.core) k c.requires.scope.state

pub declared::elab_each-is_ready-requires : goal.declared::elab_each-is_ready-requires
declared::elab_each-is_ready-requires t c =
    λ k. decs_ready c.loop-dec.invariant k

pub rec_exps::elab_rec_exps-is_ready-requires : goal.rec_exps::elab_rec_exps-is_ready-requires
rec_exps::elab_rec_exps-is_ready-requires t c =
    λ k. later {old = moment c.args.g.now c.args.t.now c.args.scope.now} c.requires.scope k
    c.loop-rule.invariant.goes c.loop-rule.invariant.same

pub rec_exps::elab_rec_exps-is_there-requires : goal.rec_exps::elab_rec_exps-is_there-requires
rec_exps::elab_rec_exps-is_there-requires t c =
    has_first c.loop-rule.t c.loop-rule.invariant.have c.in-Some.ensures.cases.0

pub val::elab_val-is_ready-requires : goal.val::elab_val-is_ready-requires
val::elab_val-is_ready-requires t c =
    λ k. own_ready c.args.g.now c.args.t.now c.own_variables.new.t c.args.scope.now c.own_variables.new.scope
    c.as_slice-names.result.now (map rule_phrase c.in-Val.binds) (map rule_phrase c.in-Val.recs) c.in_ok-own-in-Val.own c.requires
    k c.in_ok-own-in-Val.ensures.infers c.in_ok-own-in-Val.ensures.ok
    (c.in_ok-own-in-Val.ensures.ok.there c.own_variables.new.t c.in_ok-own-in-Val.ensures.made
    (core_later c.args.g.now c.args.t.now c.own_variables.new.t c.args.scope.now c.in_ok-own-in-Val.ensures.ids
    c.requires.core))

pub val::elab_val-is_since-requires : goal.val::elab_val-is_since-requires
val::elab_val-is_since-requires t c =
    subst (λ (z : Table). IsFrontOf z c.own_variables.new.t) (sym c.mark-since.ensures)
    c.in_ok-own-in-Val.ensures.ids.front

pub val::elab_val_under-returns-in_default : goal.val::elab_val_under-returns-in_default
val::elab_val_under-returns-in_default t c = at_once c.requires.scope.core

pub val::elab_recs_of-returns-in_default : goal.val::elab_recs_of-returns-in_default
val::elab_recs_of-returns-in_default t c = at_once c.requires.scope.core

pub val::elab_recs_of-returns-in-Val : goal.val::elab_recs_of-returns-in-Val
val::elab_recs_of-returns-in-Val t c =
    of_recs c.args.bound.now c.args.types.now c.in-Val.field-0 c.in-Val.field-1 c.as_slice.result.now c.in-Val.field-3
    (val_phrase c.in-Val.field-0 c.in-Val.field-1 c.in-Val.recs c.in-Val.field-1 c.as_slice.result.now c.in-Val.field-3
    (ap dec_phrase c.in-Val.is ∙ dec_phrase-Val c.in-Val.field-0 c.in-Val.field-1 c.in-Val.recs c.in-Val.field-3)
    refl c.as_slice.ensures)
    c.elab_recs_under.ensures

pub exp::elab_let-returns-in_err-inside-in-Let : goal.exp::elab_let-returns-in_err-inside-in-Let
exp::elab_let-returns-in_err-inside-in-Let t c =
    passed c.from_residual.result c.in_err-inside-in-Let.field-0.0 c.from_residual.ensures.1
    (let_refused (c.leave.ensures c.args.scope.now c.mark-before.ensures.is c.elab_inside-result.ensures.front)
    c.in_err-inside-in-Let.ensures)

pub exp::elab_let-end_let-requires : goal.exp::elab_let-end_let-requires
exp::elab_let-end_let-requires t c =
    (body_of (dec_phrase c.in-Let.field-0) (exp_phrase c.in-Let.field-1) c.in-Let.at
    (ap exp_phrase c.in-Let.is ∙ exp_phrase-Let c.in-Let.field-0 c.in-Let.field-1 c.in-Let.at)
    c.in_ok-inside-in-Let.ensures).behind.has

pub exp::elab_let-returns-in_ok-inside-in-Let : goal.exp::elab_let-returns-in_ok-inside-in-Let
exp::elab_let-returns-in_ok-inside-in-Let t c =
    let_ended (c.leave.ensures c.args.scope.now c.mark-before.ensures.is c.elab_inside-result.ensures.front)
    (dec_phrase c.in-Let.field-0) (exp_phrase c.in-Let.field-1) c.in-Let.at c.made-from.result
    (ap exp_phrase c.in-Let.is ∙ exp_phrase-Let c.in-Let.field-0 c.in-Let.field-1 c.in-Let.at)
    c.requires.core
    (body_of (dec_phrase c.in-Let.field-0) (exp_phrase c.in-Let.field-1) c.in-Let.at
    (ap exp_phrase c.in-Let.is ∙ exp_phrase-Let c.in-Let.field-0 c.in-Let.field-1 c.in-Let.at)
    c.in_ok-inside-in-Let.ensures)
    c.made-from.ensures c.end_let.ensures

pub exp::elab_inside-returns-in_default : goal.exp::elab_inside-returns-in_default
exp::elab_inside-returns-in_default t c = inside_memory c.requires.scope.core c.requires.front

pub exp::elab_inside-returns-in_err-elab_entered-in-Let : goal.exp::elab_inside-returns-in_err-elab_entered-in-Let
exp::elab_inside-returns-in_err-elab_entered-in-Let t c =
    passed_on (IsInside (moment c.args.g.now c.args.t.now c.args.scope.now) (exp_phrase c.args.exp.now)
    (moment c.elab_entered.new.g c.elab_entered.new.t c.elab_entered.new.scope)) c.from_residual.result
    c.in_err-elab_entered-in-Let.field-0.0 c.from_residual.ensures.1
    (inside_as (ap exp_phrase c.in-Let.is ∙ exp_phrase-Let c.in-Let.dec c.in-Let.body c.in-Let.field-2
    ∙ ap (λ p. ExpPhrase.Let (dec_phrase p) (exp_phrase c.in-Let.body) c.in-Let.field-2) (sym c.get.ensures))
    (inside_first (dec_phrase c.get.result.now) c.in-Let.field-2 c.in_err-elab_entered-in-Let.ensures
    (exp_phrase c.in-Let.body)))

pub exp::elab_inside-is_ready-requires : goal.exp::elab_inside-is_ready-requires
exp::elab_inside-is_ready-requires t c =
    λ k. ready_inside (dec_phrase c.get.result.now) c.elab_entered.new.all c.in-Let.field-2
    c.in_ok-elab_entered-in-Let.ensures c.requires.scope k

pub exp::elab_inside-returns-in_err-id-in-Let : goal.exp::elab_inside-returns-in_err-id-in-Let
exp::elab_inside-returns-in_err-id-in-Let t c =
    passed_on (IsInside (moment c.args.g.now c.args.t.now c.args.scope.now) (exp_phrase c.args.exp.now)
    (moment c.elab_in_scope.new.g c.elab_in_scope.new.t c.elab_in_scope.new.scope)) c.from_residual-in_err-id-in-Let.result
    c.in_err-id-in-Let.field-0.0 c.from_residual-in_err-id-in-Let.ensures.1
    (inside_as (ap exp_phrase c.in-Let.is ∙ exp_phrase-Let c.in-Let.dec c.in-Let.body c.in-Let.field-2
    ∙ ap₂ (λ p q. ExpPhrase.Let (dec_phrase p) (exp_phrase q) c.in-Let.field-2) (sym c.get.ensures) (sym c.get-in-Let.ensures))
    (inside_second (dec_phrase c.get.result.now) c.elab_entered.new.all c.in-Let.field-2
    c.in_ok-elab_entered-in-Let.ensures (exp_phrase c.get-in-Let.result.now) c.requires.scope.core
    c.in_err-id-in-Let.ensures))

pub exp::elab_inside-returns-in_ok-id-in-Let : goal.exp::elab_inside-returns-in_ok-id-in-Let
exp::elab_inside-returns-in_ok-id-in-Let t c =
    inside_as (ap exp_phrase c.in-Let.is ∙ exp_phrase-Let c.in-Let.dec c.in-Let.body c.in-Let.field-2
    ∙ ap₂ (λ p q. ExpPhrase.Let (dec_phrase p) (exp_phrase q) c.in-Let.field-2) (sym c.get.ensures) (sym c.get-in-Let.ensures))
    (inside_done (dec_phrase c.get.result.now) c.elab_entered.new.all c.in-Let.field-2
    c.in_ok-elab_entered-in-Let.ensures (exp_phrase c.get-in-Let.result.now)
    (record { to = c.made-to.result; id = c.in_ok-id-in-Let.id }) c.made-to.ensures c.in_ok-id-in-Let.ensures)

pub declared::elab_declared-returns-in_err-made-in-Local : goal.declared::elab_declared-returns-in_err-made-in-Local
declared::elab_declared-returns-in_err-made-in-Local t c =
    dec_passed c.from_residual.result c.in_err-made-in-Local.field-0.0 c.from_residual.ensures.1
    (local_refused (c.leave.ensures c.args.scope.now c.mark-before.ensures.is c.elab_shown-result.ensures.front)
    c.in_err-made-in-Local.ensures)

pub declared::elab_declared-check_made-requires : goal.declared::elab_declared-check_made-requires
declared::elab_declared-check_made-requires t c =
    (local_of (dec_phrase c.in-Local.field-0) (dec_phrase c.in-Local.field-1) c.in-Local.at
    (ap dec_phrase c.in-Local.is ∙ dec_phrase-Local c.in-Local.field-0 c.in-Local.field-1 c.in-Local.at)
    c.in_ok-made-in-Local.ensures).behind.envs

pub declared::elab_declared-returns-in_ok-made-in-Local : goal.declared::elab_declared-returns-in_ok-made-in-Local
declared::elab_declared-returns-in_ok-made-in-Local t c =
    local_ended (c.leave.ensures c.args.scope.now c.mark-before.ensures.is c.elab_shown-result.ensures.front)
    (dec_phrase c.in-Local.field-0) (dec_phrase c.in-Local.field-1) c.in-Local.at
    (ap dec_phrase c.in-Local.is ∙ dec_phrase-Local c.in-Local.field-0 c.in-Local.field-1 c.in-Local.at)
    c.requires.core
    (local_of (dec_phrase c.in-Local.field-0) (dec_phrase c.in-Local.field-1) c.in-Local.at
    (ap dec_phrase c.in-Local.is ∙ dec_phrase-Local c.in-Local.field-0 c.in-Local.field-1 c.in-Local.at)
    c.in_ok-made-in-Local.ensures)
    c.check_made.ensures.same c.check_made.ensures.answer c.check_made.ensures.it

pub declared::elab_shown-returns-in_default : goal.declared::elab_shown-returns-in_default
declared::elab_shown-returns-in_default t c = shown_memory c.requires.scope.core c.requires.front

pub declared::elab_shown-returns-in_err-elab_entered-in-Local : goal.declared::elab_shown-returns-in_err-elab_entered-in-Local
declared::elab_shown-returns-in_err-elab_entered-in-Local t c =
    passed_on (IsShown (moment c.args.g.now c.args.t.now c.args.scope.now) (dec_phrase c.args.dec.now)
    (moment c.elab_entered.new.g c.elab_entered.new.t c.elab_entered.new.scope)) c.from_residual.result
    c.in_err-elab_entered-in-Local.field-0.0 c.from_residual.ensures.1
    (shown_as (ap dec_phrase c.in-Local.is ∙ dec_phrase-Local c.in-Local.hidden c.in-Local.shown c.in-Local.field-2
    ∙ ap (λ p. DecPhrase.Local (dec_phrase p) (dec_phrase c.in-Local.shown) c.in-Local.field-2) (sym c.get.ensures))
    (shown_first (dec_phrase c.get.result.now) c.in-Local.field-2 c.in_err-elab_entered-in-Local.ensures
    (dec_phrase c.in-Local.shown)))

pub declared::elab_shown-is_ready-requires : goal.declared::elab_shown-is_ready-requires
declared::elab_shown-is_ready-requires t c =
    λ k. ready_inside (dec_phrase c.get.result.now) c.elab_entered.new.all c.in-Local.field-2
    c.in_ok-elab_entered-in-Local.ensures c.requires.scope k

pub declared::elab_shown-returns-in_ok-elab_entered-in-Local : goal.declared::elab_shown-returns-in_ok-elab_entered-in-Local
declared::elab_shown-returns-in_ok-elab_entered-in-Local t c =
    shown_as (ap dec_phrase c.in-Local.is ∙ dec_phrase-Local c.in-Local.hidden c.in-Local.shown c.in-Local.field-2
    ∙ ap₂ (λ p q. DecPhrase.Local (dec_phrase p) (dec_phrase q) c.in-Local.field-2) (sym c.get.ensures) (sym c.get-in-Local.ensures))
    (shown_behind (dec_phrase c.get.result.now) c.elab_entered.new.all c.in-Local.field-2
    c.in_ok-elab_entered-in-Local.ensures (dec_phrase c.get-in-Local.result.now) c.elab_declared.result
    c.requires.scope.core c.elab_declared.ensures)

pub declared::elab_entered-returns-in-Sequence : goal.declared::elab_entered-returns-in-Sequence
declared::elab_entered-returns-in-Sequence t c =
    enters_as (ap dec_phrase c.in-Sequence.is ∙ dec_phrase-Sequence c.in-Sequence.decs c.in-Sequence.field-1
    ∙ ap (λ decs. DecPhrase.Sequence (dec_phrases (map dec_phrase decs)) c.in-Sequence.field-1)
    (sym c.as_slice.ensures)) (enters_all c.in-Sequence.field-1 c.requires.scope.core c.elab_each.ensures)

pub declared::elab_entered-returns-in_err-made-in_default : goal.declared::elab_entered-returns-in_err-made-in_default
declared::elab_entered-returns-in_err-made-in_default t c =
    passed_on (Enters (moment c.args.g.now c.args.t.now c.args.scope.now) (dec_phrase c.args.dec.now) c.args.all.now
    (moment c.elab_declared.new.g c.elab_declared.new.t c.elab_declared.new.scope)) c.from_residual.result
    c.in_err-made-in_default.field-0.0 c.from_residual.ensures.1
    (enters_failed (dec_phrase c.args.dec.now) c.requires.front c.in_err-made-in_default.ensures)

pub declared::elab_entered-returns-in_err-enter_declared-in_default : goal.declared::elab_entered-returns-in_err-enter_declared-in_default
declared::elab_entered-returns-in_err-enter_declared-in_default t c =
    passed_on (Enters (moment c.args.g.now c.args.t.now c.args.scope.now) (dec_phrase c.args.dec.now) c.enter_declared.new.all
    (moment c.elab_declared.new.g c.enter_declared.new.t c.enter_declared.new.scope))
    c.from_residual-in_err-enter_declared-in_default.result fault.NoMemory
    c.from_residual-in_err-enter_declared-in_default.ensures.1
    (enters_memory (dec_phrase c.args.dec.now) c.in_ok-made-in_default.made c.enter_declared.ensures.kept
    c.in_ok-made-in_default.ensures c.enter_declared.new.all c.requires.scope.core c.requires.front
    c.in_err-enter_declared-in_default.ensures.err)

pub declared::elab_entered-returns-in_ok-enter_declared-in_default : goal.declared::elab_entered-returns-in_ok-enter_declared-in_default
declared::elab_entered-returns-in_ok-enter_declared-in_default t c =
    enters_one (dec_phrase c.args.dec.now) c.in_ok-made-in_default.made c.enter_declared.ensures.kept
    c.in_ok-made-in_default.ensures c.args.all.now c.enter_declared.new.all c.requires.all
    c.in_ok-enter_declared-in_default.ensures.state
    (c.in_ok-enter_declared-in_default.ensures.scope c.elab_declared.new.g c.in_ok-made-in_default.ensures.envs)
    c.in_ok-enter_declared-in_default.ensures.all
