mod Fronts
mod Parts
