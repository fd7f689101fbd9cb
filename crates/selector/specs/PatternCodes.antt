-- The location and the channel that a pattern gives, as they are kept: a location stands only beside a channel.
-- SeedLink 3, SELECT.
use Rattle.std.specs.Prelude.{◌≡◌, ℕ, refl, List, Option, Some, None}
use Rattle.selector.specs.declared.pattern.Codes.{Codes}
use Rattle.selector.specs.declared.pattern.Codes.TheVariants.{Nothing, Channel, Both}

-- the location, where one is given
abbrev pub location_of : Codes → Option (List ℕ)
location_of Nothing = None
location_of (Channel channel) = None
location_of (Both location channel) = Some location

-- the channel, where one is given
abbrev pub channel_of : Codes → Option (List ℕ)
channel_of Nothing = None
channel_of (Channel channel) = Some channel
channel_of (Both location channel) = Some channel

-- the codes with that location and channel; no pattern has a location alone
abbrev pub codes_of : (location channel : Option (List ℕ)) → Codes
codes_of location None = Nothing
codes_of None (Some channel) = Channel channel
codes_of (Some location) (Some channel) = Both location channel

-- They are the codes again.
pub codes-again : (codes : Codes) → codes_of (location_of codes) (channel_of codes) ≡ codes
codes-again Nothing = refl
codes-again (Channel channel) = refl
codes-again (Both location channel) = refl
