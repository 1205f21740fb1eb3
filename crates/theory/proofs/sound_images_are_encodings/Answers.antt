use Rattle.theory.proofs.sound_images_are_encodings.Goals as goal
use Rattle.theory.proofs.Images.{sound_images_are_encodings}

pub returns : goal.returns
returns c = sound_images_are_encodings
