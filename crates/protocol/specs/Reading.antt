-- How bytes become commands: "A command acts on its last byte."
use Rattle.std.specs.Prelude.{ℕ, ◌+◌, ◌-◌, ◌≤◌, ◌≡◌, cond, ◌&&◌, List, [], ◌∷◌, eqb, ltb, length, get_or, set, drop, replicate, Some, None}
use Rattle.protocol.specs.declared.Command.{Command}
use Rattle.protocol.specs.declared.Received.{Received}
use Rattle.protocol.specs.Codes.{parameters_of, memory_load}

-- the most parameter bytes that a command has
abbrev pub most_parameters : ℕ
most_parameters = 6

-- the six places for parameter bytes, before any has come
abbrev pub zeros : List ℕ
zeros = 0 ∷ 0 ∷ 0 ∷ 0 ∷ 0 ∷ 0 ∷ []

-- no half-received command: at power-up ("all else zero"), and once the last byte has come
abbrev pub no_command : Command
no_command = record { code = 0; come = 0; params = zeros; pending = 0 }

-- no command is half received
abbrev pub Between : Command → Type 0
Between c = c.code ≡ 0

-- What a byte came to: a command that is still half received, or a whole one, with its code and six places for parameters.
pub data Fed : Type 0 where
  half : Command → Fed
  whole : ℕ → List ℕ → Fed

-- the first byte of a command is its code
unfoldable pub begin : ℕ → Fed
begin b =
    cond (eqb (parameters_of b) 0) (whole b zeros)
    (half (record { code = b; come = 0; params = zeros; pending = 0 }))

-- a parameter byte; after the third of a memory load come as many data bytes as it says
unfoldable pub take_parameter : Command → ℕ → Fed
take_parameter c b =
    let params = set c.params c.come b in
    cond (ltb (c.come + 1) (parameters_of c.code))
    (half (record { code = c.code; come = c.come + 1; params = params; pending = 0 }))
    (cond (eqb c.code memory_load && ltb 0 b)
    (half (record { code = c.code; come = c.come + 1; params = params; pending = b }))
    (whole c.code params))

-- a data byte of a memory load, which is not kept
unfoldable pub take_data : Command → Fed
take_data c =
    cond (eqb c.pending 1) (whole c.code c.params)
    (half (record { code = c.code; come = c.come; params = c.params; pending = c.pending - 1 }))

-- a host byte begins a command, or is the next byte of "a half-received command": a data byte of 0x20, or a parameter
unfoldable pub feed : Command → ℕ → Fed
feed c b = cond (eqb c.code 0) (begin b) (cond (ltb 0 c.pending) (take_data c) (take_parameter c b))

-- "a half-received command", after the byte
unfoldable pub command_after : Fed → Command
command_after (half c) = c
command_after (whole code params) = no_command

-- every number is a byte
abbrev pub AllBytes : List ℕ → Type 0
AllBytes [] = Unit {0}
AllBytes (b ∷ bs) = (b ≤ 255) × AllBytes bs

-- how many of its bytes are still to come
abbrev pub missing : Command → ℕ
missing c = (parameters_of c.code - c.come) + c.pending

-- the third byte of a memory load, once it has come; what is still to come of the data is at most that
abbrev pub data_told : Command → ℕ
data_told c = cond (eqb c.code memory_load && eqb c.come 3) (get_or c.params 2 0) 0

-- "a half-received command lacks at least one byte": its ranges
pub record IsCommand (c : Command) : Type 0 where
  pub places : length c.params ≡ most_parameters
  pub known : AllBytes c.params
  pub within : c.come ≤ parameters_of c.code
  pub lacks : cond (eqb c.code 0) 0 1 ≤ missing c
  pub told : c.pending ≤ data_told c

-- a representation fact: parameter bytes past the count are 0. With the ranges, no command is all 0.
abbrev pub OneCommand : Command → Type 0
OneCommand c = drop c.come c.params ≡ replicate (most_parameters - c.come) 0

-- how the code hands on what a byte came to
abbrev pub received_of : Fed → Received
received_of (half c) = record { command = c; whole = None }
received_of (whole code params) = record { command = no_command; whole = Some (record { code = code; params = params }) }
