-- Where serving stopped, a round broke off; otherwise all is kept.
use Rattle.std.proofs.Common.{inl, inr}
use Rattle.bac_server.proofs.Unwatched.{ends_of}
use Rattle.bac_server.proofs.keeping.serve_rounds.Goals as goal

pub returns-in_err-effects-clause-kept : goal.returns-in_err-effects-clause-kept
returns-in_err-effects-clause-kept g c =
    ends_of g.V.Observer.Sees _ _ g.K.Keeper.IsHonest g.K.Keeper.IsOpen g.K.Keeper.kept g.K.Keeper.noted g.K.Keeper.may_find _ _ _
    (inr c.in_err-effects.ensures.broken_off)

pub returns-in_err-print_served-clause-kept : goal.returns-in_err-print_served-clause-kept
returns-in_err-print_served-clause-kept g c =
    ends_of g.V.Observer.Sees _ _ g.K.Keeper.IsHonest g.K.Keeper.IsOpen g.K.Keeper.kept g.K.Keeper.noted g.K.Keeper.may_find _ _ _
    (inl (record {
      effects = c.in_ok-effects.effects;
      serves = c.in_ok-effects.ensures.served;
      all = record { is_kept = c.in_ok-effects.ensures.kept };
    }))

pub returns-clause-printed : goal.returns-clause-printed
returns-clause-printed g c =
    record { effects = c.in_ok-effects.effects; serves = c.in_ok-effects.ensures.served; printed = c.in_ok-print_served.ensures }

pub returns-clause-all : goal.returns-clause-all
returns-clause-all g c = record { is_kept = c.in_ok-effects.ensures.kept }

pub returns-clause-kept : goal.returns-clause-kept
returns-clause-kept g c =
    ends_of g.V.Observer.Sees _ _ g.K.Keeper.IsHonest g.K.Keeper.IsOpen g.K.Keeper.kept g.K.Keeper.noted g.K.Keeper.may_find _ _ _
    (inl (record {
      effects = c.in_ok-effects.effects;
      serves = c.in_ok-effects.ensures.served;
      all = record { is_kept = c.in_ok-effects.ensures.kept };
    }))
