-- What is asked and what is answered are the whole: the grid of a query over stored values, or its refusal.
use Rattle.std.proofs.Common.{inl, inr, ℕ, List, subst}
use Rattle.aso_outline.specs.declared.draft.Draft.{Draft}
use Rattle.aso_mdx.specs.declared.query.Query.{Query}
use Rattle.aso_grid.specs.declared.grid_plan.GridPlan.{GridPlan}
use Rattle.aso_query.specs.declared.asking.Asked.{Asked}
use Rattle.aso_query.specs.declared.refusal.QueryRefusal.{QueryRefusal}
use Rattle.aso_query.specs.Answers.{IsAsked, IsAskedRefusal, IsGridOf, IsGridOver, IsPast, IsRefused, Stored}

module _ (o : Draft) (stored : Stored) (q : Query) where
  pub refused_first : (r : QueryRefusal) → IsAskedRefusal o q r → IsRefused o stored q r
  refused_first r refused = inl refused

  module _ (a : Asked) (asked : IsAsked o q a) where
    pub refused_last : (r : QueryRefusal) → IsPast o a.extra.members.items stored a.plan r → IsRefused o stored q r
    refused_last r past = inr (a.extra.members.items, asked.order, subst (λ (p : GridPlan). IsPast o a.extra.members.items stored p r) asked.plan past)

    pub whole_grid : (rows columns : ℕ) (text : List ℕ) → IsGridOver o a.extra.members.items stored a.plan rows columns text → IsGridOf o stored q rows columns text
    whole_grid rows columns text grid = (a.extra.members.items, asked.order, subst (λ (p : GridPlan). IsGridOver o a.extra.members.items stored p rows columns text) asked.plan grid)
