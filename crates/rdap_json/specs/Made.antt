-- The members of an object that is being made.
use Rattle.serde_json.specs.Data.{Members}
use Rattle.serde_json.specs.View.{members_view}
use Rattle.rdap_json.specs.declared.members.Members.{Members as Made}

abbrev pub members_in : Made → Members
members_in made = members_view made.map.entries
