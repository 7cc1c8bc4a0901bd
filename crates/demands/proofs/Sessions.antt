-- The twelve sessions of document 01, computed.
-- Assumes nothing.
use mathlib.Core.Path.{refl}
use Rattle.demands.specs.Sessions.{Sessions, sessions}
use Rattle.demands.proofs.Rules.{rules, of_keys}

-- each of the twelve gives its bytes
pub sessions_hold : Sessions
unfolding rules of_keys sessions Sessions
sessions_hold = (((refl, refl), tt), (((refl, refl), tt), (((refl, refl), tt), (((refl, refl), tt), (((refl, refl), ((refl, refl), tt)), (((refl, refl), tt), (((refl, refl), tt), (((refl, refl), tt), (((refl, refl), tt), (((refl, refl), tt), (((refl, refl), tt), (((refl, refl), tt), tt))))))))))))
