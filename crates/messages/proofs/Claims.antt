-- Each claim of specs/Claims.antt, by the laws of its topic.
-- Assumes nothing.
use Rattle.messages.specs.Claims.{ObjectsAreLines, ObjectsAreJson8, MessagesAreLines, RefusalsAreLines}
use Rattle.messages.proofs.Objects.{object_tree}
use Rattle.messages.proofs.OneLines.{object_line, message_line, refusal_line}

pub objects_are_lines : ObjectsAreLines
objects_are_lines = object_line

pub objects_are_json8 : ObjectsAreJson8
objects_are_json8 = object_tree

pub messages_are_lines : MessagesAreLines
messages_are_lines = message_line

pub refusals_are_lines : RefusalsAreLines
refusals_are_lines = refusal_line
