-- What structures and units become is good.
use Rattle.std.proofs.Common.{if◌then◌else◌, ◌≡◌, Bool, true, false, [], ◌∷◌, Option, Some, None, sym, ◌∙◌, subst, map, flat_map}
use Rattle.sml_trees.specs.declared.name.At.{At}
use Rattle.sml_trees.specs.declared.full_sig.FullSigExp.{FullSigExp}
use Rattle.sml_trees.specs.declared.full_sig.FullSeal.{FullSeal}
use Rattle.sml_trees.specs.declared.full_str.FullStrDec.{FullStrDec, roll-FullStrDec}
use Rattle.sml_trees.specs.declared.full_str.FullStrExp.{FullStrExp, roll-FullStrExp}
use Rattle.sml_trees.specs.declared.full_str.FullStrBind.{FullStrBind, roll-FullStrBind}
use Rattle.sml_trees.specs.declared.full_str.FullStrDec.TheOpen.{FullStrDec-F, FullStrExp-F, FullStrBind-F}
use Rattle.sml_trees.specs.declared.full_str.FullStrDec.TheFolds.{map-FullStrDec, map-FullStrExp, map-FullStrBind, fold-roll-FullStrDec, fold-roll-FullStrExp, fold-roll-FullStrBind, ind-FullStrExp, ind-FullStrBind}
use Rattle.sml_trees.specs.declared.full_unit.FullTopDec.{FullTopDec}
use Rattle.sml_trees.specs.declared.full_unit.FullTopDec.TheVariants as full
use Rattle.sml_trees.specs.declared.full_unit.FullParam.{FullParam}
use Rattle.sml_trees.specs.declared.full_unit.FullParam.TheVariants as param
use Rattle.sml_trees.specs.declared.full_unit.FullFunctorBind.{FullFunctorBind}
use Rattle.sml_trees.specs.declared.exp.Dec.TheFolds.{fold-roll-StrBind}
use Rattle.sml_trees.specs.declared.exp.Dec.TheVariants as dec
use Rattle.sml_trees.specs.declared.exp.StrBind.{StrBind}
use Rattle.sml_trees.specs.declared.exp.StrExp.{StrExp}
use Rattle.sml_trees.specs.declared.exp.StrExp.TheVariants as str
use Rattle.bare_forms.specs.declared.placed.PlacedStr.{PlacedStr}
use Rattle.bare_forms.specs.Patterns.{long_at}
use Rattle.bare_forms.specs.Signatures.{bare_sig, bare_sig_bind}
use Rattle.bare_forms.specs.Expressions.{PlacedDec, decs_of, sequence_dec}
use Rattle.bare_forms.specs.Structures.{sealed, str_dec_level, str_level, str_bind_level, bare_str_dec, bare_str, bare_str_bind}
use Rattle.bare_forms.specs.Units.{param_text, opening, functor_of, bare_functor, bare_topdec}
use Rattle.code_laws.specs.Plain.{exp_plain, exp_field_plain, rule_plain, dec_plain, str_plain, str_bind_plain, plain_str, plain_str_bind, plain_fun_bind, plain_topdec, plain_sig, plain_sig_bind, plain_funsig_bind}
use Rattle.body_laws.proofs.Signatures.{Each, every, each-map, each-held, each-flat, both-true, each-all, GoodSpec, GoodSigBind, good-Sig, sig_is, spec_is, sig_bind_is}
use Rattle.body_laws.proofs.Nodes.{PlainDec, good-dec_Open, good-dec_Local, good-dec_Structures, good-dec_Sequence, good-str_Struct, good-str_Named, good-str_Transparent, good-str_Opaque, good-str_Functor, good-str_Within}
use Rattle.body_laws.proofs.Phrases.{dec_is}
use Rattle.body_laws.specs.Promises.{BodiesAreSequences}
use Rattle.bare_forms.specs.Signatures.{bare_spec}
use Rattle.bare_forms.specs.Units.{bare_funsig, spec_sig}

-- ---- structures

abbrev PlainStr : PlacedStr → Type 0
PlainStr s = plain_str s.str ≡ true

abbrev StrDecIs : FullStrDec → Type 0
StrDecIs d = Each PlainDec (bare_str_dec d).decs

abbrev StrIs : FullStrExp → Type 0
StrIs s = PlainStr (bare_str s)

abbrev BindIs : FullStrBind → Type 0
BindIs bind = plain_str_bind (bare_str_bind bind) ≡ true

abbrev HeldFullStrDec : Type 0
HeldFullStrDec = (x : FullStrDec) × StrDecIs x

abbrev HeldFullStrExp : Type 0
HeldFullStrExp = (x : FullStrExp) × StrIs x

abbrev HeldFullStrBind : Type 0
HeldFullStrBind = (x : FullStrBind) × BindIs x

good-sealed-if : (b : Bool) (g : FullSigExp) (body : PlacedStr) → PlainStr body
    → plain_str (if b then str.Opaque body.str (bare_sig g) body.at else str.Transparent body.str (bare_sig g) body.at) ≡ true
good-sealed-if true g body is = good-str_Opaque body.str (bare_sig g) body.at is (sig_is g)
good-sealed-if false g body is = good-str_Transparent body.str (bare_sig g) body.at is (sig_is g)

good-sealed : (seal : Option FullSeal) (body : PlacedStr) → PlainStr body → plain_str (sealed seal body) ≡ true
good-sealed None body is = is
good-sealed (Some seal) body is = good-sealed-if seal.opaque seal.sig body is

str_parts : (y : FullStrExp-F HeldFullStrDec HeldFullStrExp HeldFullStrBind) → PlainStr (str_level (map-FullStrExp _ _ _ _ _ _ bare_str_dec bare_str bare_str_bind (map-FullStrExp _ _ _ _ _ _ (λ h. h.0) (λ h. h.0) (λ h. h.0) y)))
unfolding bare_str_dec bare_str bare_str_bind
str_parts (FullStrExp-F.Struct decs at) = good-str_Struct (sequence_dec at (map bare_str_dec (map (λ h. h.0) decs))) at (good-dec_Sequence (flat_map decs_of (map bare_str_dec (map (λ h. h.0) decs))) at (each-flat PlainDec decs_of (map bare_str_dec (map (λ h. h.0) decs)) (each-map (λ d. Each PlainDec (decs_of d)) bare_str_dec (map (λ h. h.0) decs) (each-held (λ x. StrDecIs x) decs))))
str_parts (FullStrExp-F.Named long at) = good-str_Named long at
str_parts (FullStrExp-F.Transparent inner g at) = good-str_Transparent (bare_str inner.0).str (bare_sig g) at inner.1 (sig_is g)
str_parts (FullStrExp-F.Opaque inner g at) = good-str_Opaque (bare_str inner.0).str (bare_sig g) at inner.1 (sig_is g)
str_parts (FullStrExp-F.Functor name arg at) = good-str_Functor name (bare_str arg.0).str at arg.1
str_parts (FullStrExp-F.FunctorOfDecs name decs begin at) =
    good-str_Functor name (str.Struct (sequence_dec begin (map bare_str_dec (map (λ h. h.0) decs))) begin) at
    (good-str_Struct (sequence_dec begin (map bare_str_dec (map (λ h. h.0) decs))) begin (good-dec_Sequence (flat_map decs_of (map bare_str_dec (map (λ h. h.0) decs))) begin (each-flat PlainDec decs_of (map bare_str_dec (map (λ h. h.0) decs)) (each-map (λ d. Each PlainDec (decs_of d)) bare_str_dec (map (λ h. h.0) decs) (each-held (λ x. StrDecIs x) decs)))))
str_parts (FullStrExp-F.Within decs inner at) =
    good-str_Within (sequence_dec at (map bare_str_dec (map (λ h. h.0) decs))) (bare_str inner.0).str at (good-dec_Sequence (flat_map decs_of (map bare_str_dec (map (λ h. h.0) decs))) at (each-flat PlainDec decs_of (map bare_str_dec (map (λ h. h.0) decs)) (each-map (λ d. Each PlainDec (decs_of d)) bare_str_dec (map (λ h. h.0) decs) (each-held (λ x. StrDecIs x) decs)))) inner.1

str_dec_parts : (y : FullStrDec-F HeldFullStrDec HeldFullStrExp HeldFullStrBind) → Each PlainDec (str_dec_level (map-FullStrDec _ _ _ _ _ _ bare_str_dec bare_str bare_str_bind (map-FullStrDec _ _ _ _ _ _ (λ h. h.0) (λ h. h.0) (λ h. h.0) y))).decs
unfolding bare_str_dec bare_str bare_str_bind
str_dec_parts (FullStrDec-F.Core each) = dec_is each
str_dec_parts (FullStrDec-F.Structures binds at) = (
  good-dec_Structures (map bare_str_bind (map (λ h. h.0) binds)) at
      (each-map (λ b. plain_str_bind b ≡ true) bare_str_bind (map (λ h. h.0) binds) (each-held (λ x. BindIs x) binds)),
  tt,
)
str_dec_parts (FullStrDec-F.Local hidden decs at) =
    (good-dec_Local (sequence_dec at (map bare_str_dec (map (λ h. h.0) hidden))) (sequence_dec at (map bare_str_dec (map (λ h. h.0) decs))) at (good-dec_Sequence (flat_map decs_of (map bare_str_dec (map (λ h. h.0) hidden))) at (each-flat PlainDec decs_of (map bare_str_dec (map (λ h. h.0) hidden)) (each-map (λ d. Each PlainDec (decs_of d)) bare_str_dec (map (λ h. h.0) hidden) (each-held (λ x. StrDecIs x) hidden)))) (good-dec_Sequence (flat_map decs_of (map bare_str_dec (map (λ h. h.0) decs))) at (each-flat PlainDec decs_of (map bare_str_dec (map (λ h. h.0) decs)) (each-map (λ d. Each PlainDec (decs_of d)) bare_str_dec (map (λ h. h.0) decs) (each-held (λ x. StrDecIs x) decs)))), tt)

bind_parts : (y : FullStrBind-F HeldFullStrDec HeldFullStrExp HeldFullStrBind) → plain_str_bind (str_bind_level (map-FullStrBind _ _ _ _ _ _ bare_str_dec bare_str bare_str_bind (map-FullStrBind _ _ _ _ _ _ (λ h. h.0) (λ h. h.0) (λ h. h.0) y))) ≡ true
unfolding bare_str_dec bare_str bare_str_bind
bind_parts y =
    fold-roll-StrBind _ _ _ _ _ _ dec_plain exp_plain str_plain exp_field_plain rule_plain str_bind_plain
    (record { name = y.name; body = sealed y.seal (bare_str y.body.0) })
    ∙ good-sealed y.seal (bare_str y.body.0) y.body.1

str_dec_step : (x : FullStrDec-F FullStrDec FullStrExp FullStrBind) (y : FullStrDec-F HeldFullStrDec HeldFullStrExp HeldFullStrBind) → map-FullStrDec _ _ _ _ _ _ (λ h. h.0) (λ h. h.0) (λ h. h.0) y ≡ x → StrDecIs (roll-FullStrDec x)
unfolding bare_str_dec bare_str bare_str_bind
str_dec_step x y is = subst (λ (z : FullStrDec-F FullStrDec FullStrExp FullStrBind). StrDecIs (roll-FullStrDec z)) is
    (subst (λ (d : PlacedDec). Each PlainDec d.decs) (sym (fold-roll-FullStrDec _ _ _ str_dec_level str_level str_bind_level (map-FullStrDec _ _ _ _ _ _ (λ h. h.0) (λ h. h.0) (λ h. h.0) y))) (str_dec_parts y))

str_step : (x : FullStrExp-F FullStrDec FullStrExp FullStrBind) (y : FullStrExp-F HeldFullStrDec HeldFullStrExp HeldFullStrBind) → map-FullStrExp _ _ _ _ _ _ (λ h. h.0) (λ h. h.0) (λ h. h.0) y ≡ x → StrIs (roll-FullStrExp x)
unfolding bare_str_dec bare_str bare_str_bind
str_step x y is = subst (λ (z : FullStrExp-F FullStrDec FullStrExp FullStrBind). StrIs (roll-FullStrExp z)) is
    (subst (λ (s : PlacedStr). PlainStr s) (sym (fold-roll-FullStrExp _ _ _ str_dec_level str_level str_bind_level (map-FullStrExp _ _ _ _ _ _ (λ h. h.0) (λ h. h.0) (λ h. h.0) y))) (str_parts y))

bind_step : (x : FullStrBind-F FullStrDec FullStrExp FullStrBind) (y : FullStrBind-F HeldFullStrDec HeldFullStrExp HeldFullStrBind) → map-FullStrBind _ _ _ _ _ _ (λ h. h.0) (λ h. h.0) (λ h. h.0) y ≡ x → BindIs (roll-FullStrBind x)
unfolding bare_str_dec bare_str bare_str_bind
bind_step x y is = subst (λ (z : FullStrBind-F FullStrDec FullStrExp FullStrBind). BindIs (roll-FullStrBind z)) is
    (subst (λ (b : StrBind). plain_str_bind b ≡ true) (sym (fold-roll-FullStrBind _ _ _ str_dec_level str_level str_bind_level (map-FullStrBind _ _ _ _ _ _ (λ h. h.0) (λ h. h.0) (λ h. h.0) y))) (bind_parts y))

str_is : (s : FullStrExp) → StrIs s
str_is = ind-FullStrExp StrDecIs StrIs BindIs str_dec_step str_step bind_step

bind_is : (bind : FullStrBind) → BindIs bind
bind_is = ind-FullStrBind StrDecIs StrIs BindIs str_dec_step str_step bind_step

-- ---- units

good-opening : (at : At) (body : StrExp) → plain_str body ≡ true → plain_str (opening at body) ≡ true
good-opening at body is =
    let opened = dec.Open (long_at at param_text ∷ []) at in
    good-str_Within (dec.Sequence (opened ∷ []) at) body at
    (good-dec_Sequence (opened ∷ []) at (good-dec_Open (long_at at param_text ∷ []) at, tt)) is

good-functor-of : (bind : FullFunctorBind) (p : FullParam) → plain_fun_bind (functor_of bind p) ≡ true
good-functor-of bind (param.Named name sig) =
    both-true (plain_sig (bare_sig sig)) (plain_str (sealed bind.seal (bare_str bind.body))) (sig_is sig)
    (good-sealed bind.seal (bare_str bind.body) (str_is bind.body))
good-functor-of bind (param.Spec specs at) =
    let body = sealed bind.seal (bare_str bind.body) in
    let place = (bare_str bind.body).at in
    both-true (plain_sig (spec_sig at specs)) (plain_str (opening place body))
    (good-Sig (flat_map bare_spec specs) at (each-flat GoodSpec bare_spec specs (every (λ s. Each GoodSpec (bare_spec s)) spec_is specs)))
    (good-opening place body (good-sealed bind.seal (bare_str bind.body) (str_is bind.body)))

good-topdec : (topdec : FullTopDec) → plain_topdec (bare_topdec topdec) ≡ true
good-topdec (full.Structures binds at) =
    each-all plain_str_bind (map bare_str_bind binds)
    (each-map (λ b. plain_str_bind b ≡ true) bare_str_bind binds (every BindIs bind_is binds))
good-topdec (full.Signatures binds at) =
    each-all plain_sig_bind (map bare_sig_bind binds)
    (each-map GoodSigBind bare_sig_bind binds (every (λ b. GoodSigBind (bare_sig_bind b)) sig_bind_is binds))
good-topdec (full.Functors binds at) =
    each-all plain_fun_bind (map bare_functor binds)
    (each-map (λ b. plain_fun_bind b ≡ true) bare_functor binds
    (every (λ b. plain_fun_bind (bare_functor b) ≡ true) (λ b. good-functor-of b b.param) binds))
good-topdec (full.Funsigs binds at) =
    each-all plain_funsig_bind (map bare_funsig binds)
    (each-map (λ b. plain_funsig_bind b ≡ true) bare_funsig binds
    (every (λ b. plain_funsig_bind (bare_funsig b) ≡ true)
    (λ b. both-true (plain_sig (bare_sig b.param_sig)) (plain_sig (bare_sig b.result_sig)) (sig_is b.param_sig) (sig_is b.result_sig))
    binds))

-- in a unit's bare unit, what is to be a sequence is one
pub sequences_of_bare : BodiesAreSequences
sequences_of_bare unit =
    each-all plain_topdec (map bare_topdec unit.topdecs)
    (each-map (λ t. plain_topdec t ≡ true) bare_topdec unit.topdecs
    (every (λ t. plain_topdec (bare_topdec t) ≡ true) good-topdec unit.topdecs))
