use Rattle.std.proofs.Common.{◌≡◌, sym, ap, ◌∙◌, List, map, Some, None}
use Rattle.type_walks.specs.declared.replacing.Replace.{Replace}
use Rattle.type_walks.specs.Tables.{place_among}
use Rattle.type_walks.specs.Replaced.{put_by, function_for}
use Rattle.type_walks.proofs.Keys.{found_row, found_no_row}
use Rattle.type_walks.proofs.replacing.Replacements.function_of.Goals as goal

pub returns-in-Some-get : goal.returns-in-Some-get
returns-in-Some-get c =
    let e : place_among c.in-Name.name (map (λ (r : Replace). r.name) c.self.inside.list) ≡ Some c.in-Some.place =
    ap (place_among c.in-Name.name) (sym c.self.invariant.names) ∙ sym c.in_ok-place-in-Name.ensures ∙ c.in-Some.is in
    sym (ap (function_for c.args.self.now) c.in-Name.is
    ∙ ap (λ (l : List Replace). put_by l c.in-Name.name) (sym c.self.view_is)
    ∙ found_row c.in-Name.name c.self.inside.list c.in-Some.place c.in-Some-get.replace.now e
    (sym c.in-Some-get.ensures.item))

pub returns-in-None : goal.returns-in-None
returns-in-None c =
    let e : place_among c.in-Name.name (map (λ (r : Replace). r.name) c.self.inside.list) ≡ None =
    ap (place_among c.in-Name.name) (sym c.self.invariant.names) ∙ sym c.in_ok-place-in-Name.ensures ∙ c.in-None.is in
    sym (ap (function_for c.args.self.now) c.in-Name.is
    ∙ ap (λ (l : List Replace). put_by l c.in-Name.name) (sym c.self.view_is)
    ∙ found_no_row c.in-Name.name c.self.inside.list e)
