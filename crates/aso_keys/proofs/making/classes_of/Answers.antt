use Rattle.std.proofs.Common.{sym, subst, refl, arith}
use Rattle.aso_outline.specs.Classes.{class_at, classes_at}
use Rattle.aso_keys.specs.Axes.{AreBelow}
use Rattle.aso_keys.proofs.MakingLemmas.{below_none, below_more, classes_more, as_long}
use Rattle.aso_keys.proofs.making.classes_of.Goals as goal

pub loop-leaf-init : goal.loop-leaf-init
loop-leaf-init c = record {
  classes = c.new-classes.ensures.items;
  below = subst (AreBelow (classes_at c.args.outline.now c.args.dim c.args.hier c.args.level)) (sym c.new-classes.ensures.items) (below_none (classes_at c.args.outline.now c.args.dim c.args.hier c.args.level));
}

pub loop-leaf-preserved : goal.loop-leaf-preserved
loop-leaf-preserved c = record {
  classes = classes_more (class_at c.args.outline.now c.args.dim c.args.hier c.args.level) c.loop-leaf.leaf c.loop-leaf.classes.items c.push.new.self.items c.class_of.result c.in_ok-push.ensures.items c.class_of.ensures.value c.loop-leaf.invariant.classes;
  below = below_more (classes_at c.args.outline.now c.args.dim c.args.hier c.args.level) c.loop-leaf.classes.items c.push.new.self.items c.class_of.result c.in_ok-push.ensures.items c.loop-leaf.invariant.below c.class_of.ensures.below;
}

pub returns-clause-short : goal.returns-clause-short
returns-clause-short c =
    as_long (class_at c.args.outline.now c.args.dim c.args.hier c.args.level) c.loop-leaf.leaf c.loop-leaf.leaf c.loop-leaf.classes.items (omega arith) refl c.loop-leaf.invariant.classes
