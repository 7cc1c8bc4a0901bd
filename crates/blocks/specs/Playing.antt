-- What the lines of a text come to in a session, with the buffer `lent`.
use Rattle.std.specs.Prelude.{ℕ, ◌+◌, ◌≤◌, ◌≡◌, List, [], length, take}
use Rattle.session.specs.declared.lines.Session.{Session}
use Rattle.session.specs.Session.{ended, rest, printout, state_after}

-- the first `used` bytes of the text t are whole lines, they are printed and taken, and no line ends in t where they are none
pub record Plays (lent : ℕ) (s : Session) (t : List ℕ) (used : ℕ) (shown : List ℕ) (n : Session) : Type 0 where
  pub within : used ≤ length t
  pub whole : rest (take used t) ≡ []
  pub printed : shown ≡ printout s.state lent s.number (ended (take used t))
  pub state : n.state ≡ state_after s.state lent (ended (take used t))
  pub number : n.number ≡ s.number + length (ended (take used t))
  pub most : used ≡ 0 → ended t ≡ []
