-- What demand 3 sees of a state: the settings and the half-received command, and what bytes taken do to the two.
-- Assumes nothing.
use Prim.Native.Nat.{ℕ}
use mathlib.Core.Path.{◌≡◌, refl}
use mathlib.Core.List.{List, [], ◌∷◌, ◌++◌}
use Rattle.protocol.specs.declared.Settings.{Settings}
use Rattle.protocol.specs.declared.Command.{Command}
use Rattle.protocol.specs.Reading.{feed, command_after}
use Rattle.protocol.specs.Commands.{settings_after}

pub record Core : Type 0 where
  pub settings : Settings
  pub command : Command

-- one byte taken
abbrev pub eat : Core → ℕ → Core
eat c b = record { settings = settings_after c.settings (feed c.command b); command = command_after (feed c.command b) }

-- bytes taken one after the other
abbrev pub eats : Core → List ℕ → Core
eats c [] = c
eats c (b ∷ bs) = eats (eat c b) bs

-- bytes of two lists are those of one and then those of the other
pub eats_append : (c : Core) (xs ys : List ℕ) → eats c (xs ++ ys) ≡ eats (eats c xs) ys
eats_append c [] ys = refl
eats_append c (x ∷ xs) ys = eats_append (eat c x) xs ys
