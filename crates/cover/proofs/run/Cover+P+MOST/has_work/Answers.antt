use Rattle.cover.proofs.Attempting.{supplied_is}
use Rattle.cover.proofs.run.Cover+P+MOST.has_work.Goals as goal

pub returns : goal.returns
returns g c = supplied_is g.P.Product.meaning c.args.self.now c.args.work c.work_needed.result c.work_needed.ensures
