use Rattle.std.proofs.Common.{min, length, refl}
use Rattle.minimizer.proofs.WholeLaws.{minimizes_by}
use Rattle.minimizer.proofs.whole.shrink_rows.Goals as goal

pub returns : goal.returns
returns c =
    record {
      minimizes =
          minimizes_by (min 960 (length c.args.places.now)) (length c.args.list.now) (length c.args.work.now) c.args.text.now c.args.list.now
          c.read_sheet.new.list c.args.heading c.args.places.now _ _ refl c.requires c.read_sheet.ensures.spells c.read_sheet.ensures.products
          c.shrink-shrunk.ensures.shrinks;
      work = λ u. c.shrink-shrunk.ensures.work u.0 u.1;
    }
