use Rattle.tool_deriving.specs.Toolboxes.{rules_of}
use Rattle.tool_loading.specs.Projects.{loaded_over}
use Rattle.group_loader.specs.Loading.{origin_of, states_by}
use Rattle.group_loader.proofs.Headline.{by_rules, keeps_from, keeps_others, over_store}
use Rattle.group_loader.proofs.project.load.Goals as goal

pub returns-clause-folder : goal.returns-clause-folder
returns-clause-folder g c = c.load_project.ensures.loads.folder

pub returns-clause-tool : goal.returns-clause-tool
returns-clause-tool g c = c.load_project.ensures.loads.tools

pub returns-clause-over : goal.returns-clause-over
returns-clause-over g c = λ files is.
    over_store g.T.Tool.class g.T.Tool.rule g.T.Tool.ran g.T.Tool.faults c.args.tools.now files c.args.defs.now
    c.args.root.now c.args.freezing c.load_project.result _ _ _ _ _ c.load_project.ensures.loads is

pub returns-clause-gives : goal.returns-clause-gives
returns-clause-gives g c = λ files is true_records.
    by_rules g.T.Tool.class g.T.Tool.rule g.T.Tool.ran g.T.Tool.faults c.args.tools.now files c.args.defs.now
    c.args.root.now c.args.freezing c.load_project.result _ true_records
    (over_store g.T.Tool.class g.T.Tool.rule g.T.Tool.ran g.T.Tool.faults c.args.tools.now files c.args.defs.now
    c.args.root.now c.args.freezing c.load_project.result _ _ _ _ _ c.load_project.ensures.loads is)

pub returns-clause-keeps : goal.returns-clause-keeps
returns-clause-keeps g c = λ files is.
    keeps_from _ _ files _ is
    (keeps_others
    (origin_of files (states_by g.T.Tool.class g.T.Tool.rule g.T.Tool.ran g.T.Tool.faults c.args.tools.now)) _
    (loaded_over files (rules_of g.T.Tool.class g.T.Tool.rule c.args.tools.now) c.args.defs.now c.args.root.now
    c.args.freezing) c.load_project.result
    (over_store g.T.Tool.class g.T.Tool.rule g.T.Tool.ran g.T.Tool.faults c.args.tools.now files c.args.defs.now
    c.args.root.now c.args.freezing c.load_project.result _ _ _ _ _ c.load_project.ensures.loads is))
