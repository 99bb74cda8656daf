-- What one level of a pattern becomes, with what its parts become.
use Rattle.std.proofs.Common.{◌≡◌, List, Option, Some, None, sym, ap, ◌∙◌, map}
use Rattle.std.specs.Option.{option_map}
use Rattle.bare_forms.specs.Types.{bare_ty}
use Rattle.bare_forms.specs.Runs.{Part, run_of}
use Rattle.bare_forms.proofs.Bound.{run_from-Atom, run_from-Operator, run_from-end}
use Rattle.bare_forms.specs.Patterns.{placed, tuple_pat, list_pat, joined_pat, applied_pat, missing_pat, named_pat, pat_level, pat_field_level, pat_item_level, bare_pat, bare_pat_field, bare_pat_item}
use Rattle.sml_trees.specs.declared.name.At.{At}
use Rattle.sml_trees.specs.declared.name.Name.{Name}
use Rattle.sml_trees.specs.declared.full_ty.FullTy.{FullTy}
use Rattle.sml_trees.specs.declared.full_pat.FullPat.{FullPat}
use Rattle.sml_trees.specs.declared.full_pat.FullPat.TheOpen.{FullPat-F, FullPatField-F, FullPatItem-F}
use Rattle.sml_trees.specs.declared.full_pat.FullPat.TheFolds.{fold-roll-FullPat, fold-roll-FullPatField, fold-roll-FullPatItem}
use Rattle.sml_trees.specs.declared.full_pat.FullPat.TheVariants as full
use Rattle.sml_trees.specs.declared.full_pat.FullPatField.{FullPatField}
use Rattle.sml_trees.specs.declared.full_pat.FullPatField.TheVariants as field
use Rattle.sml_trees.specs.declared.full_pat.FullPatItem.{FullPatItem}
use Rattle.sml_trees.specs.declared.full_pat.FullPatItem.TheVariants as item
use Rattle.sml_trees.specs.declared.full_pat.Fixity.{Fixity}
use Rattle.sml_trees.specs.declared.pat.Pat.TheVariants as pat
use Rattle.sml_trees.specs.declared.pat.PatField.{roll-PatField}

pub bare_pat-Record : (fields : List FullPatField) (at : At)
    → bare_pat (full.Record fields at) ≡ placed at (pat.Record (map bare_pat_field fields) at)
bare_pat-Record fields at =
    ap bare_pat (sym (full.rolls-Record fields at))
    ∙ fold-roll-FullPat _ _ _ pat_level pat_field_level pat_item_level (FullPat-F.Record fields at)

pub bare_pat-Tuple : (parts : List FullPat) (at : At)
    → bare_pat (full.Tuple parts at) ≡ placed at (tuple_pat at (map bare_pat parts))
bare_pat-Tuple parts at =
    ap bare_pat (sym (full.rolls-Tuple parts at))
    ∙ fold-roll-FullPat _ _ _ pat_level pat_field_level pat_item_level (FullPat-F.Tuple parts at)

pub bare_pat-List : (items : List FullPat) (at : At)
    → bare_pat (full.List items at) ≡ placed at (list_pat at (map bare_pat items))
bare_pat-List items at =
    ap bare_pat (sym (full.rolls-List items at))
    ∙ fold-roll-FullPat _ _ _ pat_level pat_field_level pat_item_level (FullPat-F.List items at)

pub bare_pat-Run : (items : List FullPatItem) (at : At)
    → bare_pat (full.Run items at)
    ≡ placed at (run_of joined_pat applied_pat (missing_pat at) (map bare_pat_item items)).pat
bare_pat-Run items at =
    ap bare_pat (sym (full.rolls-Run items at))
    ∙ fold-roll-FullPat _ _ _ pat_level pat_field_level pat_item_level (FullPat-F.Run items at)

pub bare_pat_field-Named : (name : Name) (ty : Option FullTy) (p : Option FullPat)
    → bare_pat_field (field.Named name ty p)
    ≡ roll-PatField (record { label = name; pat = named_pat name (option_map bare_ty ty) (option_map bare_pat p) })
bare_pat_field-Named name ty None =
    ap bare_pat_field (sym (field.rolls-Named name ty None))
    ∙ fold-roll-FullPatField _ _ _ pat_level pat_field_level pat_item_level (FullPatField-F.Named name ty None)
bare_pat_field-Named name ty (Some p) =
    ap bare_pat_field (sym (field.rolls-Named name ty (Some p)))
    ∙ fold-roll-FullPatField _ _ _ pat_level pat_field_level pat_item_level (FullPatField-F.Named name ty (Some p))

pub bare_pat_item-Atom : (p : FullPat) → bare_pat_item (item.Atom p) ≡ Part.Atom (bare_pat p)
bare_pat_item-Atom p =
    ap bare_pat_item (sym (item.rolls-Atom p))
    ∙ fold-roll-FullPatItem _ _ _ pat_level pat_field_level pat_item_level (FullPatItem-F.Atom p)

pub bare_pat_item-Operator : (name : Name) (fixity : Fixity)
    → bare_pat_item (item.Operator name fixity) ≡ Part.Operator (record { name = name; fixity = fixity })
bare_pat_item-Operator name fixity =
    ap bare_pat_item (sym (item.rolls-Operator name fixity))
    ∙ fold-roll-FullPatItem _ _ _ pat_level pat_field_level pat_item_level (FullPatItem-F.Operator name fixity)

pub ruleset pat_runs = (
  bare_pat_item-Atom,
  bare_pat_item-Operator,
  run_from-Atom,
  run_from-Operator,
  run_from-end,
)

pub ruleset pat_levels = (
  bare_pat-Record,
  bare_pat-Tuple,
  bare_pat-List,
  bare_pat-Run,
  bare_pat_field-Named,
)
