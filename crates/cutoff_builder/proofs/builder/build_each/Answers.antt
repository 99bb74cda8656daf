use Rattle.std.proofs.Common.{◌∙◌, sym, ap, subst, refl, ◌+◌, [], ◌++◌, map, take, drop, arith}
use Rattle.std.specs.List.{AllByRecursion}
use Rattle.std.proofs.lemmas.List.{length-map, take_all}
use Rattle.build_laws.specs.Inputs.{interface_bytes}
use Rattle.build_laws.specs.Storing.{IsSmallPlanned}
use Rattle.cutoff_builder.specs.Planning.{as_list, planned_in, planned_of}
use Rattle.cutoff_builder.proofs.Bins.{none_have_bins, no_units, step_bins, step_count}
use Rattle.cutoff_builder.proofs.Going.{Going, going_start, going_more, going_stops, going_folder, going_memory, going_ends, planned_split, planned_more, each_middle}
use Rattle.cutoff_builder.proofs.builder.build_each.Goals as goal

pub loop-place-init : goal.loop-place-init
loop-place-init g c = record {
  going = λ files told. subst (λ ds. Going g.C.Compiler.defines.compiled files [] ds (g.C.Compiler.asked c.args.compiler.now)
      (g.C.Compiler.asked c.args.compiler.now) (g.F.Folder.holds c.args.folder.now)) (sym c.none-done.ensures.units)
      (going_start g.C.Compiler.defines.compiled files (g.C.Compiler.asked c.args.compiler.now) (g.F.Folder.holds c.args.folder.now) told);
  done = c.none-done.ensures.done;
  few = let none = c.none-done.ensures.done.bytes ∙ ap interface_bytes c.none-done.ensures.units in omega (arith, none);
  later = omega arith;
  same = refl;
  count = no_units c.none-done.result.units c.none-done.ensures.units 0;
  bins = none_have_bins c.none-done.result.units c.none-done.ensures.units;
}

pub build_number-requires-clause-small : goal.build_number-requires-clause-small
build_number-requires-clause-small g c =
    let numbers = map (λ placed. placed.unit) c.args.order.now in
    let i = c.loop-place.place in
    let front = planned_in c.args.project.now c.args.skeletons.now c.args.wanted.now (take i numbers) in
    let next = as_list c.source_unit-found.result in
    let later = planned_in c.args.project.now c.args.skeletons.now c.args.wanted.now (drop (i + 1) numbers) in
    let split = planned_split c.args.project.now c.args.skeletons.now c.args.wanted.now i numbers c.at.result c.at.ensures
    ∙ ap (λ l. front ++ (l ++ later)) (sym c.source_unit-found.ensures) in
    each_middle IsSmallPlanned front next later (subst (AllByRecursion IsSmallPlanned) split c.requires.small)

pub returns-in-Err-Diag-clause-cuts : goal.returns-in-Err-Diag-clause-cuts
returns-in-Err-Diag-clause-cuts g c = λ files told.
    let numbers = map (λ placed. placed.unit) c.args.order.now in
    let i = c.loop-place.place in
    let front = planned_in c.args.project.now c.args.skeletons.now c.args.wanted.now (take i numbers) in
    let next = as_list c.source_unit-found.result in
    let later = planned_in c.args.project.now c.args.skeletons.now c.args.wanted.now (drop (i + 1) numbers) in
    let split = planned_split c.args.project.now c.args.skeletons.now c.args.wanted.now i numbers c.at.result c.at.ensures
    ∙ ap (λ l. front ++ (l ++ later)) (sym c.source_unit-found.ensures) in
    let going = c.loop-place.invariant.going files told in
    let steps = rw c.in-Err-Diag.field-0-is at (c.in-Err-Diag.ensures.steps going.here going.holds) in
    rw c.in-Err-Diag.field-0-is (going_stops g.C.Compiler.defines.compiled files front c.loop-place.done.units (g.C.Compiler.asked c.args.compiler.now) (g.C.Compiler.asked c.loop-place.compiler)
    (g.F.Folder.holds c.loop-place.folder) going next c.build_number.new.done.units (g.F.Folder.holds c.build_number.new.folder)
    (g.C.Compiler.asked c.build_number.new.compiler)
    (planned_of c.args.project.now c.args.skeletons.now c.args.wanted.now c.args.order.now) later split
    c.in-Err-Diag.diag (record { units = c.build_number.new.done.units }) refl steps)

pub returns-in-Err-Folder-clause-cuts : goal.returns-in-Err-Folder-clause-cuts
returns-in-Err-Folder-clause-cuts g c = λ files told.
    let numbers = map (λ placed. placed.unit) c.args.order.now in
    let i = c.loop-place.place in
    let front = planned_in c.args.project.now c.args.skeletons.now c.args.wanted.now (take i numbers) in
    let next = as_list c.source_unit-found.result in
    let later = planned_in c.args.project.now c.args.skeletons.now c.args.wanted.now (drop (i + 1) numbers) in
    let split = planned_split c.args.project.now c.args.skeletons.now c.args.wanted.now i numbers c.at.result c.at.ensures
    ∙ ap (λ l. front ++ (l ++ later)) (sym c.source_unit-found.ensures) in
    let going = c.loop-place.invariant.going files told in
    let steps = rw c.in-Err-Folder.field-0-is at (c.in-Err-Folder.ensures.steps going.here going.holds) in
    going_folder g.C.Compiler.defines.compiled files front c.loop-place.done.units (g.C.Compiler.asked c.args.compiler.now) (g.C.Compiler.asked c.loop-place.compiler)
    (g.F.Folder.holds c.loop-place.folder) going next c.build_number.new.done.units (g.F.Folder.holds c.build_number.new.folder)
    (g.C.Compiler.asked c.build_number.new.compiler)
    (planned_of c.args.project.now c.args.skeletons.now c.args.wanted.now c.args.order.now) later split steps

pub returns-in-Err-NoMemory-clause-cuts : goal.returns-in-Err-NoMemory-clause-cuts
returns-in-Err-NoMemory-clause-cuts g c = λ files told.
    let numbers = map (λ placed. placed.unit) c.args.order.now in
    let i = c.loop-place.place in
    let front = planned_in c.args.project.now c.args.skeletons.now c.args.wanted.now (take i numbers) in
    let next = as_list c.source_unit-found.result in
    let later = planned_in c.args.project.now c.args.skeletons.now c.args.wanted.now (drop (i + 1) numbers) in
    let split = planned_split c.args.project.now c.args.skeletons.now c.args.wanted.now i numbers c.at.result c.at.ensures
    ∙ ap (λ l. front ++ (l ++ later)) (sym c.source_unit-found.ensures) in
    let going = c.loop-place.invariant.going files told in
    let steps = rw c.in-Err-NoMemory.field-0-is at (c.in-Err-NoMemory.ensures.steps going.here going.holds) in
    going_memory g.C.Compiler.defines.compiled files front c.loop-place.done.units (g.C.Compiler.asked c.args.compiler.now) (g.C.Compiler.asked c.loop-place.compiler)
    (g.F.Folder.holds c.loop-place.folder) going next c.build_number.new.done.units (g.F.Folder.holds c.build_number.new.folder)
    (g.C.Compiler.asked c.build_number.new.compiler)
    (planned_of c.args.project.now c.args.skeletons.now c.args.wanted.now c.args.order.now) later split steps

pub loop-place-preserved : goal.loop-place-preserved
loop-place-preserved g c =
    let numbers = map (λ placed. placed.unit) c.args.order.now in
    let i = c.loop-place.place in
    let front = planned_in c.args.project.now c.args.skeletons.now c.args.wanted.now (take i numbers) in
    let next = as_list c.source_unit-found.result in
    let more = planned_more c.args.project.now c.args.skeletons.now c.args.wanted.now i numbers c.at.result c.at.ensures
    ∙ ap (λ l. front ++ l) (sym c.source_unit-found.ensures) in
    record {
      going = λ files told.
          let going = c.loop-place.invariant.going files told in
          subst (λ ps. Going g.C.Compiler.defines.compiled files ps c.build_number.new.done.units (g.C.Compiler.asked c.args.compiler.now)
          (g.C.Compiler.asked c.build_number.new.compiler) (g.F.Folder.holds c.build_number.new.folder)) (sym more)
          (going_more g.C.Compiler.defines.compiled files front c.loop-place.done.units (g.C.Compiler.asked c.args.compiler.now) (g.C.Compiler.asked c.loop-place.compiler)
          (g.F.Folder.holds c.loop-place.folder) going next c.build_number.new.done.units (g.F.Folder.holds c.build_number.new.folder)
          (g.C.Compiler.asked c.build_number.new.compiler)
          c.in-Ok.field-0 (c.in-Ok.ensures.steps going.here going.holds));
      done = c.in-Ok.ensures.done;
      few = c.in-Ok.ensures.few;
      later = omega (arith, c.loop-place.invariant.later, c.in-Ok.ensures.cause.later);
      same = c.in-Ok.ensures.same ∙ c.loop-place.invariant.same;
      count = step_count c.loop-place.place c.loop-place.done.units c.build_number.new.done.units
          c.loop-place.invariant.count c.in-Ok.ensures.adds;
      bins = step_bins c.loop-place.done.units c.build_number.new.done.units c.loop-place.invariant.bins
          c.in-Ok.ensures.adds;
    }

pub returns-clause-cuts : goal.returns-clause-cuts
returns-clause-cuts g c = λ files told.
    let numbers = map (λ placed. placed.unit) c.args.order.now in
    let going = c.loop-place.invariant.going files told in
    going_ends g.C.Compiler.defines.compiled files (planned_of c.args.project.now c.args.skeletons.now c.args.wanted.now c.args.order.now) c.loop-place.done.units
    (g.C.Compiler.asked c.args.compiler.now) (g.C.Compiler.asked c.loop-place.compiler) (g.F.Folder.holds c.loop-place.folder)
    (subst (λ l. Going g.C.Compiler.defines.compiled files (planned_in c.args.project.now c.args.skeletons.now c.args.wanted.now l)
    c.loop-place.done.units (g.C.Compiler.asked c.args.compiler.now) (g.C.Compiler.asked c.loop-place.compiler)
    (g.F.Folder.holds c.loop-place.folder)) (take_all c.loop-place.place numbers
    (omega (arith, length-map c.args.order.now (λ placed. placed.unit), c.requires.counted, c.len-count.ensures, c.loop-place-test.false))) going)
    (record { units = c.loop-place.done.units }) refl
