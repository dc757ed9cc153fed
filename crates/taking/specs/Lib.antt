-- What some of a ring's pairs answer for a point, stretches of them, and what a ladder passes over of them.
pub mod Places
pub mod Stretches
