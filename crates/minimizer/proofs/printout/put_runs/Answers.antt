use Rattle.std.proofs.Common.{sym, ◌∙◌}
use Rattle.sheet.specs.Reporting.{run_text}
use Rattle.minimizer.proofs.PrintoutLaws.{runs_put}
use Rattle.minimizer.proofs.printout.put_runs.Goals as goal

pub returns : goal.returns
returns c =
    runs_put c.args.memory.now c.write_run.new.memory c.write_run-2.new.memory c.unwrap-second.result (run_text c.args.reduced) (run_text c.args.refined) c.requires
    (sym c.unwrap-second.ensures ∙ c.write_run.ensures.answer) c.write_run.ensures.text c.write_run-2.ensures.text
